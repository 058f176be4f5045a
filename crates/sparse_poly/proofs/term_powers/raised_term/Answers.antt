use Rattle.std.proofs.Common.{arith, ◌≡◌}
use Rattle.sparse_poly.proofs.TermPowers.{raised_is}
use Rattle.sparse_poly.proofs.term_powers.raised_term.Goals as goal

pub returns : goal.returns
returns c =
    let e : c.from-p.result ≡ c.args.ring.now.modulus.value = omega arith in
    raised_is c.args.ring.now c.args.t.now c.in_ok-monomial.monomial c.from-p.result e c.requires.reduced c.in_ok-monomial.ensures.weighed c.in_ok-monomial.ensures.exponents
