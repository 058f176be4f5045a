use Rattle.sparse_poly.proofs.TermPowers.{mixed_is}
use Rattle.sparse_poly.proofs.term_powers.mixed_term.Goals as goal

pub returns : goal.returns
returns c =
    mixed_is c.args.ring.now c.args.c c.args.i c.args.j c.args.a.now c.args.b.now c.in_ok-left.left c.in_ok-right.right c.in_ok-monomial.monomial
    c.power-first.result c.power-second.result c.mul-residues.result c.mul-residue.result c.in_ok-monomial.ensures.weighed
    c.in_ok-left.ensures.exponents c.in_ok-right.ensures.exponents c.in_ok-monomial.ensures.exponents
    c.power-first.ensures.value c.power-second.ensures.value c.mul-residues.ensures.value c.mul-residue.ensures.value c.mul-residue.ensures.small
