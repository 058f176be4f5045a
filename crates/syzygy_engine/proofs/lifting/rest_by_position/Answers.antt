use Rattle.std.proofs.Common.{length, subst, sym, ◌++◌}
use Rattle.formal_sums.proofs.Sameness.{IsSame_refl}
use Rattle.formal_sums.specs.Combinations.{combination}
use Rattle.formal_sums.specs.FormalSums.{FormalSum, HasRank}
use Rattle.term_lists.specs.Rings.{ring_comparison, variables}
use Rattle.term_lists.specs.Vectors.{IsVectorOver, StandsFor, sum_of, sums_of}
use Rattle.vector_division.specs.Divisions.{IsFreeOfLeads}
use Rattle.syzygy_engine.proofs.LeftOver.{division_rests}
use Rattle.syzygy_engine.proofs.Marks.{already_by_position}
use Rattle.syzygy_engine.proofs.lifting.rest_by_position.Goals as goal

pub rest_after-requires-clause-vector : goal.rest_after-requires-clause-vector
rest_after-requires-clause-vector c =
    subst (λ r. IsVectorOver r (ring_comparison r) c.args.v.now) (sym c.requires.by_position) (already_by_position c.args.ring.now c.args.v.now c.in-Pot.is c.requires.vector)

pub returns-in-Ok-clause-rest : goal.returns-in-Ok-clause-rest
returns-in-Ok-clause-rest c = subst (λ r. IsVectorOver r (ring_comparison r) c.in-Ok.rest) c.requires.by_position c.in-Ok.ensures.rest

pub returns-in-Ok-clause-reduced : goal.returns-in-Ok-clause-reduced
returns-in-Ok-clause-reduced c =
    subst (λ r. IsFreeOfLeads (sums_of (variables r) c.args.list.now) (sum_of (variables r) c.in-Ok.rest)) c.requires.by_position c.in-Ok.ensures.reduced

pub returns-in-Ok-clause-sum : goal.returns-in-Ok-clause-sum
returns-in-Ok-clause-sum c =
    let list = c.args.list.now in
    subst (λ r. (a : FormalSum (variables r)) × HasRank (length list) a × StandsFor r c.args.v.now (combination (sums_of (variables r) list) a ++ sum_of (variables r) c.in-Ok.rest)) c.requires.by_position c.in-Ok.ensures.sum

pub returns-in-Err-clause-stop : goal.returns-in-Err-clause-stop
returns-in-Err-clause-stop c =
    let ring = c.args.ring.now in
    let v = c.args.v.now in
    division_rests ring c.args.by_position.now v v c.args.list.now c.in-Err.stop c.requires.by_position
    (record { vector = already_by_position ring v c.in-Pot.is c.requires.vector; same = IsSame_refl ring.modulus.value (sum_of (variables ring) v) }) c.in-Err.ensures.stop

pub rest_of_copy-requires-clause-by_position : goal.rest_of_copy-requires-clause-by_position
rest_of_copy-requires-clause-by_position c = c.requires.by_position

pub rest_of_copy-requires-clause-vector : goal.rest_of_copy-requires-clause-vector
rest_of_copy-requires-clause-vector c = c.requires.vector

pub rest_of_copy-requires-clause-list : goal.rest_of_copy-requires-clause-list
rest_of_copy-requires-clause-list c = c.requires.list
