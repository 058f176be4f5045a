use Rattle.std.proofs.Common.{arith}
use Rattle.term_lists.specs.Rings.{variables}
use Rattle.schreyer_resolution.proofs.Pairing.{whether_pair}
use Rattle.schreyer_resolution.proofs.trails.is_pair.Goals as goal

pub returns : goal.returns
returns c =
    let ring = c.args.ring.now in
    whether_pair (variables ring) ring.weights c.args.a.now c.args.b.now c.args.m.now _ _ (omega arith) c.in_ok-monomial.ensures.weighed c.requires.monomial
    c.in_ok-monomial.ensures.quotient c.equal.ensures.exponents
