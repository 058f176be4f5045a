use Rattle.term_lists.specs.Rings.{variables}
use Rattle.term_lists.specs.Vectors.{sums_of}
use Rattle.operation_laws.specs.Operations.{intersection_list}
use Rattle.groebner_iface.specs.Calls.{NoTrail}
use Rattle.groebner_iface.proofs.CallingRuns.{more_stops}
use Rattle.ideal_ops.specs.FrontSteps.{AreRunsOnFront}
use Rattle.ideal_ops.specs.FrontVariable.{AreIntersectionRuns, IsTrailOfIntersection}
use Rattle.ideal_ops.proofs.FrontBases.{basis_of_intersection, intersection_positions, runs_for}
use Rattle.ideal_ops.proofs.Multiplied.{work_stops}
use Rattle.syzygy_engine.proofs.Marks.{loose_list}
use Rattle.ideal_ops.proofs.intersecting.intersect.Goals as goal

pub listed-requires-clause-left : goal.listed-requires-clause-left
listed-requires-clause-left g c = loose_list c.args.ring.now c.args.left.now c.requires.left

pub listed-requires-clause-right : goal.listed-requires-clause-right
listed-requires-clause-right g c = loose_list c.args.ring.now c.args.right.now c.requires.right

pub returns-in-Err-clause-stop : goal.returns-in-Err-clause-stop
returns-in-Err-clause-stop g c =
    let ring = c.args.ring.now in
    let left = c.args.left.now in
    let right = c.args.right.now in
    rw c.from.ensures
    (work_stops (g.B.Groebner.stops c.args.engine.now) (g.B.Groebner.stopped c.args.engine.now) (AreIntersectionRuns ring c.args.rank left right) (IsTrailOfIntersection ring left right)
    c.in-Err.stop c.in-Err.ensures.stop)

pub basis_back-requires-clause-vectors : goal.basis_back-requires-clause-vectors
basis_back-requires-clause-vectors g c κs within = c.in-Ok.ensures.list.vectors

pub basis_back-requires-clause-positions : goal.basis_back-requires-clause-positions
basis_back-requires-clause-positions g c κs within =
    let rank = c.args.rank in
    intersection_positions c.args.ring.now rank (c.lawful_setting.ensures rank) c.args.left.now c.args.right.now c.in-Ok.list c.requires.left_positions c.requires.right_positions c.in-Ok.ensures.list

pub returns-in-Ok-basis_back-clause-basis : goal.returns-in-Ok-basis_back-clause-basis
returns-in-Ok-basis_back-clause-basis g c =
    let rank = c.args.rank in
    basis_of_intersection c.args.ring.now rank (c.lawful_setting.ensures rank) c.args.left.now c.args.right.now c.in-Ok.list c.in-Ok-basis_back.basis c.requires.left_positions c.requires.right_positions
    c.in-Ok.ensures.list c.in-Ok-basis_back.ensures.basis

pub returns-clause-stop : goal.returns-clause-stop
returns-clause-stop g c =
    let ring = c.args.ring.now in
    let n = variables ring in
    let rank = c.args.rank in
    let left = c.args.left.now in
    let right = c.args.right.now in
    more_stops _ _ _ _ (AreRunsOnFront ring rank c.in-Ok.list) (AreIntersectionRuns ring rank left right) NoTrail (IsTrailOfIntersection ring left right)
    (runs_for ring rank (intersection_list ring.modulus.value (sums_of n left) (sums_of n right)) c.in-Ok.list c.in-Ok.ensures.list) (λ t h. absurd h) c.in-Err-basis_back.stop c.in-Err-basis_back.ensures.stop
