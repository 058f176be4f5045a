use Rattle.std.proofs.Common.{subst}
use Rattle.operation_laws.specs.Operations.{saturation_list}
use Rattle.term_lists.specs.FrontVariables.{front_ring}
use Rattle.term_lists.specs.Rings.{variables}
use Rattle.term_lists.specs.Vectors.{sum_of, sums_of}
use Rattle.groebner_iface.specs.Calls.{NoTrail}
use Rattle.syzygy_engine.specs.Runs.{AreVectorsFor}
use Rattle.syzygy_engine.proofs.Marks.{loose, loose_list}
use Rattle.groebner_iface.proofs.CallingRuns.{more_stops}
use Rattle.ideal_ops.specs.FrontSteps.{AreRunsOnFront}
use Rattle.ideal_ops.specs.FrontVariable.{AreSaturationRuns, IsTrailOfSaturation}
use Rattle.ideal_ops.proofs.FrontBases.{basis_of_saturation, runs_for, saturation_positions}
use Rattle.ideal_ops.proofs.Multiplied.{work_stops}
use Rattle.ideal_ops.proofs.saturating.saturate.Goals as goal

pub saturating_list-requires-clause-list : goal.saturating_list-requires-clause-list
saturating_list-requires-clause-list g c = loose_list c.args.ring.now c.args.list.now c.requires.vectors

pub saturating_list-requires-clause-f : goal.saturating_list-requires-clause-f
saturating_list-requires-clause-f g c = loose c.args.ring.now c.args.f.now c.requires.f.each

pub returns-in-Err-clause-stop : goal.returns-in-Err-clause-stop
returns-in-Err-clause-stop g c =
    let ring = c.args.ring.now in
    let list = c.args.list.now in
    let f = c.args.f.now in
    rw c.from.ensures
    (work_stops (g.B.Groebner.stops c.args.engine.now) (g.B.Groebner.stopped c.args.engine.now) (AreSaturationRuns ring c.args.rank list f) (IsTrailOfSaturation ring list f)
    c.in-Err.stop c.in-Err.ensures.stop)

pub basis_back-requires-clause-vectors : goal.basis_back-requires-clause-vectors
basis_back-requires-clause-vectors g c κs within = c.in-Ok.ensures.list.vectors

pub basis_back-requires-clause-positions : goal.basis_back-requires-clause-positions
basis_back-requires-clause-positions g c κs within =
    let ring = c.args.ring.now in
    let n = variables ring in
    let rank = c.args.rank in
    let list = c.args.list.now in
    let f = sum_of n c.args.f.now in
    let stand = subst (λ m. AreVectorsFor (front_ring ring) (saturation_list ring.modulus.value m f (sums_of n list)) c.in-Ok.whole) c.first_mark-end.ensures c.in-Ok.ensures.list in
    saturation_positions ring rank (c.lawful_setting.ensures rank) list c.in-Ok.whole f c.requires.positions stand

pub returns-in-Ok-basis_back-clause-basis : goal.returns-in-Ok-basis_back-clause-basis
returns-in-Ok-basis_back-clause-basis g c =
    let ring = c.args.ring.now in
    let n = variables ring in
    let rank = c.args.rank in
    let list = c.args.list.now in
    let f = sum_of n c.args.f.now in
    let stand = subst (λ m. AreVectorsFor (front_ring ring) (saturation_list ring.modulus.value m f (sums_of n list)) c.in-Ok.whole) c.first_mark-end.ensures c.in-Ok.ensures.list in
    basis_of_saturation ring rank (c.lawful_setting.ensures rank) list c.in-Ok.whole c.in-Ok-basis_back.basis f c.requires.positions stand c.in-Ok-basis_back.ensures.basis

pub returns-clause-stop : goal.returns-clause-stop
returns-clause-stop g c =
    let ring = c.args.ring.now in
    let n = variables ring in
    let rank = c.args.rank in
    let list = c.args.list.now in
    let f = sum_of n c.args.f.now in
    let stand = subst (λ m. AreVectorsFor (front_ring ring) (saturation_list ring.modulus.value m f (sums_of n list)) c.in-Ok.whole) c.first_mark-end.ensures c.in-Ok.ensures.list in
    more_stops _ _ _ _ (AreRunsOnFront ring rank c.in-Ok.whole) (AreSaturationRuns ring rank list c.args.f.now) NoTrail (IsTrailOfSaturation ring list c.args.f.now)
    (runs_for ring rank (saturation_list ring.modulus.value rank f (sums_of n list)) c.in-Ok.whole stand) (λ t h. absurd h) c.in-Err-basis_back.stop c.in-Err-basis_back.ensures.stop

pub first_mark-end-requires : goal.first_mark-end-requires
first_mark-end-requires g c = c.requires.room

pub saturating_list-requires-clause-f_positions : goal.saturating_list-requires-clause-f_positions
saturating_list-requires-clause-f_positions g c = c.requires.f_positions
