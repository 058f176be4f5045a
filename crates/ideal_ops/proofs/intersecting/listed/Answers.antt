use Rattle.std.proofs.Common.{inl, map, subst, sym}
use Rattle.operation_laws.specs.Operations.{intersection_list, times_first, times_rest}
use Rattle.term_lists.specs.FrontVariables.{front_ring}
use Rattle.term_lists.specs.Rings.{variables}
use Rattle.term_lists.specs.Vectors.{sums_of}
use Rattle.ideal_ops.specs.FrontVariable.{IsFrontTrailOf, IsTrailOfIntersection, front_polynomial}
use Rattle.syzygy_engine.specs.Runs.{AreVectorsFor}
use Rattle.ideal_ops.proofs.Multiplied.{more_trails, vectors_after}
use Rattle.ideal_ops.proofs.intersecting.listed.Goals as goal

pub returns-in-Err-clause-stop : goal.returns-in-Err-clause-stop
returns-in-Err-clause-stop c =
    let ring = c.args.ring.now in
    let left = c.args.left.now in
    more_trails (IsFrontTrailOf ring (front_polynomial (variables ring)) left) (IsTrailOfIntersection ring left c.args.right.now) (λ t h. inl h) c.in-Err.stop c.in-Err.ensures.stop

pub returns-clause-list : goal.returns-clause-list
returns-clause-list c =
    let ring = c.args.ring.now in
    let n = variables ring in
    let p = ring.modulus.value in
    let F = sums_of n c.args.left.now in
    let H = sums_of n c.args.right.now in
    subst (AreVectorsFor (front_ring ring) (intersection_list p F H)) (sym c.in_ok-followed.ensures)
    (vectors_after (front_ring ring) (map times_first F) (map (times_rest p) H) c.in-Ok.first c.in-Ok-rest_multiples.second c.in-Ok.ensures.list c.in-Ok-rest_multiples.ensures.list)

pub variable-requires : goal.variable-requires
variable-requires c = c.requires.front

pub variable_multiples-requires-clause-front : goal.variable_multiples-requires-clause-front
variable_multiples-requires-clause-front c = c.requires.front

pub variable_multiples-requires-clause-vectors : goal.variable_multiples-requires-clause-vectors
variable_multiples-requires-clause-vectors c = c.requires.left

pub rest_multiples-requires-clause-front : goal.rest_multiples-requires-clause-front
rest_multiples-requires-clause-front c = c.requires.front

pub rest_multiples-requires-clause-vectors : goal.rest_multiples-requires-clause-vectors
rest_multiples-requires-clause-vectors c = c.requires.right
