use Rattle.std.proofs.Common.{inl, inr, refl, subst, sym}
use Rattle.formal_sums.specs.FormalSums.{Each}
use Rattle.operation_laws.specs.Operations.{eliminated}
use Rattle.term_lists.specs.Rings.{variables}
use Rattle.term_lists.specs.Vectors.{AreTermsOver, sums_of}
use Rattle.groebner_iface.specs.Calls.{NoTrail}
use Rattle.groebner_iface.specs.Runs.{IsReducedBasisOf}
use Rattle.groebner_iface.proofs.CallingRuns.{run_stops}
use Rattle.syzygy_engine.specs.Runs.{AreVectorsFor}
use Rattle.syzygy_engine.proofs.Marks.{loose_list}
use Rattle.syzygy_engine.proofs.RunAnswers.{later_stops}
use Rattle.syzygy_engine.proofs.VectorLists.{positions_for}
use Rattle.ideal_ops.specs.Runs.{AreEliminationRuns, elimination_ring}
use Rattle.ideal_ops.proofs.GradedOrders.{free_itself}
use Rattle.ideal_ops.proofs.Shared.{basis_of_elimination, free_ranks, sorted_positions, two_runs}
use Rattle.ideal_ops.proofs.eliminating.eliminate.Goals as goal

pub sorted_list-requires : goal.sorted_list-requires
sorted_list-requires g c =
    let ring = c.args.ring.now in
    subst (λ r. Each (AreTermsOver r) c.args.list.now) (sym c.in_ok-eliminating.ensures) (loose_list ring c.args.list.now c.requires.vectors)

pub reduced-requires-clause-positions : goal.reduced-requires-clause-positions
reduced-requires-clause-positions g c =
    let ring = c.args.ring.now in
    let moved = subst (λ r. AreVectorsFor r (sums_of (variables r) c.args.list.now) c.in_ok-sorted.sorted) c.in_ok-eliminating.ensures c.in_ok-sorted.ensures in
    sorted_positions ring c.args.rank c.args.k c.args.list.now c.in_ok-sorted.sorted (c.lawful_setting.ensures c.args.rank) c.requires.positions moved

pub returns-in-Err-clause-stop : goal.returns-in-Err-clause-stop
returns-in-Err-clause-stop g c =
    let ring = c.args.ring.now in
    let moved = subst (λ r. AreVectorsFor r (sums_of (variables r) c.args.list.now) c.in_ok-sorted.sorted) c.in_ok-eliminating.ensures c.in_ok-sorted.ensures in
    rw c.from.ensures
    (run_stops _ _ _ _ (AreEliminationRuns c.args.k ring c.args.rank c.args.list.now) NoTrail
    c.in_ok-eliminating.eliminating c.args.rank c.in_ok-sorted.sorted c.in-Err.stop (inl (c.in_ok-eliminating.ensures, refl, moved)) c.in-Err.ensures.stop)

pub free_members-requires : goal.free_members-requires
free_members-requires g c =
    let ring = c.args.ring.now in
    let first = subst (λ r. IsReducedBasisOf r c.args.rank c.in_ok-sorted.sorted c.in-Ok.basis) c.in_ok-eliminating.ensures c.in-Ok.ensures.basis in
    loose_list (elimination_ring c.args.k ring) c.in-Ok.basis first.vectors

pub returns-then-is_grevlex-clause-basis : goal.returns-then-is_grevlex-clause-basis
returns-then-is_grevlex-clause-basis g c =
    let ring = c.args.ring.now in
    let lawful = c.lawful_setting.ensures c.args.rank in
    let moved = subst (λ r. AreVectorsFor r (sums_of (variables r) c.args.list.now) c.in_ok-sorted.sorted) c.in_ok-eliminating.ensures c.in_ok-sorted.ensures in
    let first = subst (λ r. IsReducedBasisOf r c.args.rank c.in_ok-sorted.sorted c.in-Ok.basis) c.in_ok-eliminating.ensures c.in-Ok.ensures.basis in
    let free = c.in_ok-free.free in
    basis_of_elimination ring c.args.rank lawful c.args.k c.args.list.now c.in_ok-sorted.sorted c.in-Ok.basis free free c.requires.positions moved first c.in_ok-free.ensures
    (free_itself ring c.args.rank lawful (c.is_grevlex.ensures.0 c.if-is_grevlex.true) c.args.k c.in_ok-sorted.sorted c.in-Ok.basis free
    (sorted_positions ring c.args.rank c.args.k c.args.list.now c.in_ok-sorted.sorted lawful c.requires.positions moved) first c.in_ok-free.ensures)

pub reduced-requires-2-clause-positions : goal.reduced-requires-2-clause-positions
reduced-requires-2-clause-positions g c =
    let ring = c.args.ring.now in
    let lawful = c.lawful_setting.ensures c.args.rank in
    let first = subst (λ r. IsReducedBasisOf r c.args.rank c.in_ok-sorted.sorted c.in-Ok.basis) c.in_ok-eliminating.ensures c.in-Ok.ensures.basis in
    positions_for ring c.args.rank lawful c.in_ok-free.free (eliminated c.args.k (sums_of (variables ring) c.in-Ok.basis)) c.in_ok-free.ensures
    (free_ranks ring c.args.rank lawful c.args.k (elimination_ring c.args.k ring) c.in_ok-sorted.sorted c.in-Ok.basis first)

pub returns-clause-stop : goal.returns-clause-stop
returns-clause-stop g c =
    let ring = c.args.ring.now in
    let moved = subst (λ r. AreVectorsFor r (sums_of (variables r) c.args.list.now) c.in_ok-sorted.sorted) c.in_ok-eliminating.ensures c.in_ok-sorted.ensures in
    let first = subst (λ r. IsReducedBasisOf r c.args.rank c.in_ok-sorted.sorted c.in-Ok.basis) c.in_ok-eliminating.ensures c.in-Ok.ensures.basis in
    rw c.from-in-Err-reduced.ensures
    (later_stops _ _ _ _ _ _ (AreEliminationRuns c.args.k ring c.args.rank c.args.list.now) NoTrail _ c.in-Ok.ensures.same
    (run_stops _ _ _ _ (AreEliminationRuns c.args.k ring c.args.rank c.args.list.now) NoTrail
    ring c.args.rank c.in_ok-free.free c.in-Err-reduced.stop
    (inr (record {
      first_ring = elimination_ring c.args.k ring;
      first_rank = c.args.rank;
      first_list = c.in_ok-sorted.sorted;
      before = (refl, refl, moved);
      basis = c.in-Ok.basis;
      reduced = first;
      kept = c.in_ok-free.ensures;
      own_ring = refl;
      own_rank = refl;
    }))
    c.in-Err-reduced.ensures.stop))

pub returns-in-Ok-reduced-clause-basis : goal.returns-in-Ok-reduced-clause-basis
returns-in-Ok-reduced-clause-basis g c =
    let ring = c.args.ring.now in
    let moved = subst (λ r. AreVectorsFor r (sums_of (variables r) c.args.list.now) c.in_ok-sorted.sorted) c.in_ok-eliminating.ensures c.in_ok-sorted.ensures in
    let first = subst (λ r. IsReducedBasisOf r c.args.rank c.in_ok-sorted.sorted c.in-Ok.basis) c.in_ok-eliminating.ensures c.in-Ok.ensures.basis in
    basis_of_elimination ring c.args.rank (c.lawful_setting.ensures c.args.rank) c.args.k c.args.list.now c.in_ok-sorted.sorted c.in-Ok.basis c.in_ok-free.free c.in-Ok-reduced.answer
    c.requires.positions moved first c.in_ok-free.ensures c.in-Ok-reduced.ensures.basis

pub returns-in-Ok-reduced-clause-runs : goal.returns-in-Ok-reduced-clause-runs
returns-in-Ok-reduced-clause-runs g c = two_runs _ _ _ c.in-Ok.ensures.run c.in-Ok-reduced.ensures.run

pub returns-clause-runs : goal.returns-clause-runs
returns-clause-runs g c = two_runs _ _ _ c.in-Ok.ensures.run c.in-Err-reduced.ensures.run
