use Rattle.term_lists.specs.Rings.{variables}
use Rattle.vector_division.specs.Reductions.{cofactors_of}
use Rattle.syzygy_engine.proofs.LeftOver.{cofactor_rank}
use Rattle.syzygy_engine.proofs.lifting.rest_after.Goals as goal
use Rattle.std.proofs.Common.{subst, sym}
use Rattle.vector_division.specs.Divisors.{AreDivisors}

pub returns-in-Ok-clause-sum : goal.returns-in-Ok-clause-sum
returns-in-Ok-clause-sum c =
    let ring = c.args.ring.now in
    let n = variables ring in
    let qs = c.in-Ok.reduction.quotients.items in
    rw c.rest_of.ensures (cofactors_of n qs, cofactor_rank n ring.weights ring.modulus.value c.args.list.now qs c.in-Ok.ensures.quotients, c.in-Ok.ensures.sum)

pub returns-in-Ok-clause-rest : goal.returns-in-Ok-clause-rest
returns-in-Ok-clause-rest c = rw c.rest_of.ensures c.in-Ok.ensures.rest

pub returns-in-Ok-clause-reduced : goal.returns-in-Ok-clause-reduced
returns-in-Ok-clause-reduced c = rw c.rest_of.ensures c.in-Ok.ensures.reduced

pub reduce_by-requires-clause-divisors : goal.reduce_by-requires-clause-divisors
reduce_by-requires-clause-divisors c =
    let n = variables c.args.ring.now in
    subst (AreDivisors n c.args.list.now) (sym c.deref.ensures.value) (c.in_ok-divisors.ensures n)
