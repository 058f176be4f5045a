use Rattle.std.proofs.Common.{inl, inr, refl}
use Rattle.groebner_iface.specs.Calls.{NoTrail}
use Rattle.groebner_iface.proofs.CallingRuns.{more_stops, run_stops}
use Rattle.syzygy_engine.proofs.Marks.{loose_list}
use Rattle.syzygy_engine.proofs.RunAnswers.{later_stops}
use Rattle.ideal_ops.proofs.Shared.{run_more}
use Rattle.ring_maps.specs.Graphs.{ArePreimageRuns, IsGraphRun}
use Rattle.ring_maps.proofs.GraphRings.{doubled_graph}
use Rattle.ring_maps.proofs.GraphBases.{basis_of_preimage, by_same_weights, member_positions, members_itself, of_doubled}
use Rattle.ring_maps.proofs.preimages.preimage.Goals as goal

pub returns-in-Err-clause-stop : goal.returns-in-Err-clause-stop
returns-in-Err-clause-stop g c =
    let ring = c.args.ring.now in
    let images = c.args.images.now in
    let list = c.args.list.now in
    more_stops _ _ _ _ (IsGraphRun ring images list) (ArePreimageRuns ring images list) NoTrail NoTrail (λ r m l h. inl h) (λ t h. h) c.in-Err.stop c.in-Err.ensures.stop

pub second_members-requires-clause-graph : goal.second_members-requires-clause-graph
second_members-requires-clause-graph g c = doubled_graph c.args.ring.now c.in-Ok.found.0 c.in-Ok.ensures.basis.run.doubled

pub second_members-requires-clause-basis : goal.second_members-requires-clause-basis
second_members-requires-clause-basis g c = loose_list c.in-Ok.found.0 c.in-Ok.found.1 c.in-Ok.ensures.basis.reduced.vectors

pub returns-then-is_grevlex-clause-basis : goal.returns-then-is_grevlex-clause-basis
returns-then-is_grevlex-clause-basis g c =
    let ring = c.args.ring.now in
    let graph = c.in-Ok.found.0 in
    let images = c.args.images.now in
    let list = c.args.list.now in
    let basis = c.in-Ok.found.1 in
    let found = of_doubled ring graph images list basis c.in-Ok.ensures.basis in
    let lawful = c.lawful_setting.ensures in
    let members = c.in_ok-members.members in
    let stand = c.in_ok-members.ensures in
    basis_of_preimage ring graph images list basis found lawful c.requires.images_polynomials c.requires.polynomials members members stand
    (members_itself ring graph images list basis found lawful c.requires.images_polynomials c.requires.polynomials
    (by_same_weights ring graph images list basis found lawful c.requires.images_polynomials c.requires.polynomials c.in-Ok.ensures.basis.run.doubled.weights) (c.is_grevlex.ensures.0 c.if-is_grevlex.true) members stand)

pub reduced-requires-clause-vectors : goal.reduced-requires-clause-vectors
reduced-requires-clause-vectors g c = c.in_ok-members.ensures.vectors

pub reduced-requires-clause-positions : goal.reduced-requires-clause-positions
reduced-requires-clause-positions g c =
    member_positions c.args.ring.now c.in-Ok.found.0 c.args.images.now c.args.list.now c.in-Ok.found.1
    (of_doubled c.args.ring.now c.in-Ok.found.0 c.args.images.now c.args.list.now c.in-Ok.found.1 c.in-Ok.ensures.basis) c.lawful_setting.ensures c.requires.images_polynomials c.requires.polynomials
    c.in_ok-members.members c.in_ok-members.ensures

pub returns-in-Ok-reduced-clause-basis : goal.returns-in-Ok-reduced-clause-basis
returns-in-Ok-reduced-clause-basis g c =
    basis_of_preimage c.args.ring.now c.in-Ok.found.0 c.args.images.now c.args.list.now c.in-Ok.found.1
    (of_doubled c.args.ring.now c.in-Ok.found.0 c.args.images.now c.args.list.now c.in-Ok.found.1 c.in-Ok.ensures.basis) c.lawful_setting.ensures c.requires.images_polynomials c.requires.polynomials
    c.in_ok-members.members c.in-Ok-reduced.answer c.in_ok-members.ensures c.in-Ok-reduced.ensures.basis

pub returns-clause-stop : goal.returns-clause-stop
returns-clause-stop g c =
    let ring = c.args.ring.now in
    let images = c.args.images.now in
    let list = c.args.list.now in
    let found = c.in-Ok.ensures.basis in
    rw c.from.ensures
    (later_stops _ _ _ _ _ _ (ArePreimageRuns ring images list) NoTrail _ c.in-Ok.ensures.same
    (run_stops _ _ _ _ (ArePreimageRuns ring images list) NoTrail ring 1 c.in_ok-members.members c.in-Err-reduced.stop
    (inr (record {
      first_ring = c.in-Ok.found.0;
      first_rank = 1;
      first_list = found.listed;
      before = found.run;
      basis = c.in-Ok.found.1;
      reduced = found.reduced;
      kept = c.in_ok-members.ensures;
      own_ring = refl;
      own_rank = refl;
    }))
    c.in-Err-reduced.ensures.stop))

pub returns-in-Ok-reduced-clause-runs : goal.returns-in-Ok-reduced-clause-runs
returns-in-Ok-reduced-clause-runs g c = run_more _ _ _ c.in-Ok.ensures.runs c.in-Ok-reduced.ensures.run

pub returns-clause-runs : goal.returns-clause-runs
returns-clause-runs g c = run_more _ _ _ c.in-Ok.ensures.runs c.in-Err-reduced.ensures.run
