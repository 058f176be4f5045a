use Rattle.std.proofs.Common.{arith, subst, sym, ◌<◌}
use Rattle.term_lists.specs.Vectors.{IsMonomialOver}
use Rattle.ideal_ops.proofs.OneMoreVariable.{front_multiple}
use Rattle.ideal_ops.proofs.front.variable_multiple.Goals as goal

pub scaled-requires-clause-factor : goal.scaled-requires-clause-factor
scaled-requires-clause-factor c = subst (λ r. 1 < r.modulus.value) (sym c.requires.front) c.domain.ensures.domain.above_one

pub scaled-requires-clause-variables : goal.scaled-requires-clause-variables
scaled-requires-clause-variables c = subst (λ r. IsMonomialOver r c.args.t.now) (sym c.requires.front) c.requires.variable.weighed

pub scaled-requires-clause-vector : goal.scaled-requires-clause-vector
scaled-requires-clause-vector c = c.requires.vector

pub returns-in-Ok-clause-vector : goal.returns-in-Ok-clause-vector
returns-in-Ok-clause-vector c = λ g h.
    let above = c.domain.ensures.domain.above_one in
    front_multiple c.args.ring.now c.args.front.now 1 c.args.t.now c.args.u.now c.in-Ok.w g (omega (arith, above)) c.requires.front c.requires.variable
    h c.in-Ok.ensures.vector c.in-Ok.ensures.sum
