use Rattle.std.proofs.Common.{ap, subst, subst₂, sym, ◌+◌}
use Rattle.formal_sums.specs.FormalSums.{Each}
use Rattle.term_lists.specs.Rings.{ring_comparison}
use Rattle.term_lists.specs.Vectors.{AreVectorsOver, HasPositions}
use Rattle.groebner_iface.specs.Calls.{NoTrail}
use Rattle.groebner_iface.specs.Runs.{IsReducedBasisOf}
use Rattle.syzygy_engine.specs.Marking.{AreMarked, IsMarkedRun}
use Rattle.syzygy_engine.proofs.Marks.{marked_positions}
use Rattle.groebner_iface.proofs.CallingRuns.{run_stops}
use Rattle.syzygy_engine.proofs.marked_runs.marked_basis.Goals as goal

pub reduced-requires-clause-vectors : goal.reduced-requires-clause-vectors
reduced-requires-clause-vectors g c = subst (λ r. AreVectorsOver r (ring_comparison r) c.in_ok-marked.marked) (sym c.in_ok-by_position.ensures) c.in_ok-marked.ensures.vectors

pub reduced-requires-clause-positions : goal.reduced-requires-clause-positions
reduced-requires-clause-positions g c =
    let ring = c.args.ring.now in
    let q = c.args.rank in
    let list = c.args.list.now in
    let done = c.in_ok-marked.marked in
    let marks = subst (λ m. AreMarked ring m list done) c.first_mark.ensures c.in_ok-marked.ensures in
    subst (λ l. Each (HasPositions (q + l)) done) (sym c.len.ensures) (marked_positions ring q list done marks (c.lawful_setting.ensures 0) c.requires.positions)

pub returns-in-Ok-clause-basis : goal.returns-in-Ok-clause-basis
returns-in-Ok-clause-basis g c =
    let ring = c.args.ring.now in
    let q = c.args.rank in
    let list = c.args.list.now in
    let done = c.in_ok-marked.marked in (
      done,
      subst (λ m. AreMarked ring m list done) c.first_mark.ensures c.in_ok-marked.ensures,
      subst₂ (λ r l. IsReducedBasisOf r (q + l) done c.in-Ok.basis) c.in_ok-by_position.ensures c.len.ensures c.in-Ok.ensures.basis,
    )

pub returns-in-Err-clause-stop : goal.returns-in-Err-clause-stop
returns-in-Err-clause-stop g c =
    let ring = c.args.ring.now in
    let q = c.args.rank in
    let list = c.args.list.now in
    let done = c.in_ok-marked.marked in
    let marks = subst (λ m. AreMarked ring m list done) c.first_mark.ensures c.in_ok-marked.ensures in
    rw c.from.ensures
    (run_stops _ _ _ _ (IsMarkedRun ring q list) NoTrail c.in_ok-by_position.by_position (q + c.len.result) done c.in-Err.stop
    (c.in_ok-by_position.ensures, ap (λ l. q + l) c.len.ensures, marks) c.in-Err.ensures.stop)

pub marked_list-requires-clause-vectors : goal.marked_list-requires-clause-vectors
marked_list-requires-clause-vectors g c = c.requires.vectors

pub first_mark-requires : goal.first_mark-requires
first_mark-requires g c = c.requires.room
