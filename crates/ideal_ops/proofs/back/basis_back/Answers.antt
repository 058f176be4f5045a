use Rattle.std.proofs.Common.{inl, inr, refl, subst, sym}
use Rattle.term_lists.specs.FrontVariables.{front_ring}
use Rattle.term_lists.specs.Rings.{ring_comparison}
use Rattle.term_lists.specs.Vectors.{AreVectorsOver}
use Rattle.groebner_iface.specs.Calls.{NoTrail}
use Rattle.groebner_iface.specs.Runs.{IsReducedBasisOf}
use Rattle.groebner_iface.proofs.CallingRuns.{run_stops}
use Rattle.ideal_ops.specs.FrontSteps.{AreRunsOnFront}
use Rattle.ideal_ops.proofs.FrontBases.{back_itself, back_positions}
use Rattle.syzygy_engine.proofs.Marks.{loose_list}
use Rattle.syzygy_engine.proofs.RunAnswers.{later_stops}
use Rattle.ideal_ops.proofs.Shared.{two_runs}
use Rattle.ideal_ops.proofs.back.basis_back.Goals as goal

pub reduced-requires-clause-vectors : goal.reduced-requires-clause-vectors
reduced-requires-clause-vectors g c = subst (λ r. AreVectorsOver r (ring_comparison r) c.args.list.now) (sym c.requires.front) c.requires.vectors

pub returns-in-Err-clause-stop : goal.returns-in-Err-clause-stop
returns-in-Err-clause-stop g c =
    let ring = c.args.ring.now in
    let rank = c.args.rank in
    let list = c.args.list.now in
    rw c.from.ensures
    (run_stops _ _ _ _ (AreRunsOnFront ring rank list) NoTrail c.args.front.now rank list c.in-Err.stop (inl (c.requires.front, refl, refl)) c.in-Err.ensures.stop)

pub members_back-requires : goal.members_back-requires
members_back-requires g c =
    let ring = c.args.ring.now in
    let first = subst (λ r. IsReducedBasisOf r c.args.rank c.args.list.now c.in-Ok.basis) c.requires.front c.in-Ok.ensures.basis in
    loose_list (front_ring ring) c.in-Ok.basis first.vectors

pub returns-then-is_grevlex-clause-basis : goal.returns-then-is_grevlex-clause-basis
returns-then-is_grevlex-clause-basis g c =
    let ring = c.args.ring.now in
    let rank = c.args.rank in
    let list = c.args.list.now in
    let fewer = c.in_ok-fewer.fewer in
    let first = subst (λ r. IsReducedBasisOf r rank list c.in-Ok.basis) c.requires.front c.in-Ok.ensures.basis in
    record {
      first = c.in-Ok.basis;
      reduced = first;
      kept = fewer;
      members = c.in_ok-fewer.ensures;
      second = back_itself ring rank (c.lawful_setting.ensures rank) (c.is_grevlex.ensures.0 c.if-is_grevlex.true) list c.in-Ok.basis fewer c.requires.positions first c.in_ok-fewer.ensures;
    }

pub reduced-requires-2-clause-positions : goal.reduced-requires-2-clause-positions
reduced-requires-2-clause-positions g c =
    let ring = c.args.ring.now in
    let rank = c.args.rank in
    let first = subst (λ r. IsReducedBasisOf r rank c.args.list.now c.in-Ok.basis) c.requires.front c.in-Ok.ensures.basis in
    back_positions ring rank (c.lawful_setting.ensures rank) c.args.list.now c.in-Ok.basis c.in_ok-fewer.fewer first c.in_ok-fewer.ensures

pub returns-clause-stop : goal.returns-clause-stop
returns-clause-stop g c =
    let ring = c.args.ring.now in
    let rank = c.args.rank in
    let list = c.args.list.now in
    let first = subst (λ r. IsReducedBasisOf r rank list c.in-Ok.basis) c.requires.front c.in-Ok.ensures.basis in
    rw c.from-in-Err-reduced.ensures
    (later_stops _ _ _ _ _ _ (AreRunsOnFront ring rank list) NoTrail _ c.in-Ok.ensures.same
    (run_stops _ _ _ _ (AreRunsOnFront ring rank list) NoTrail ring rank c.in_ok-fewer.fewer c.in-Err-reduced.stop
    (inr (record {
      first_ring = front_ring ring;
      first_rank = rank;
      first_list = list;
      before = (refl, refl, refl);
      basis = c.in-Ok.basis;
      reduced = first;
      kept = c.in_ok-fewer.ensures;
      own_ring = refl;
      own_rank = refl;
    }))
    c.in-Err-reduced.ensures.stop))

pub returns-in-Ok-reduced-clause-basis : goal.returns-in-Ok-reduced-clause-basis
returns-in-Ok-reduced-clause-basis g c =
    let rank = c.args.rank in
    record {
      first = c.in-Ok.basis;
      reduced = subst (λ r. IsReducedBasisOf r rank c.args.list.now c.in-Ok.basis) c.requires.front c.in-Ok.ensures.basis;
      kept = c.in_ok-fewer.fewer;
      members = c.in_ok-fewer.ensures;
      second = c.in-Ok-reduced.ensures.basis;
    }

pub returns-in-Ok-reduced-clause-runs : goal.returns-in-Ok-reduced-clause-runs
returns-in-Ok-reduced-clause-runs g c = two_runs _ _ _ c.in-Ok.ensures.run c.in-Ok-reduced.ensures.run

pub returns-clause-runs : goal.returns-clause-runs
returns-clause-runs g c = two_runs _ _ _ c.in-Ok.ensures.run c.in-Err-reduced.ensures.run
