use Rattle.std.proofs.Common.{inl, inr, refl, subst, sym, ◌∙◌}
use Rattle.groebner_iface.specs.Calls.{NoTrail}
use Rattle.groebner_iface.specs.Runs.{IsReducedBasisOf}
use Rattle.groebner_iface.proofs.CallingRuns.{run_stops}
use Rattle.ideal_ops.specs.Runs.{IsRunOnEither}
use Rattle.syzygy_engine.proofs.RunAnswers.{later_stops}
use Rattle.ideal_ops.proofs.Shared.{members_of_one, one_of_members, two_runs}
use Rattle.ideal_ops.proofs.Witness.{same_or_apart, settle}
use Rattle.ideal_ops.proofs.comparing.equal.Goals as goal

pub returns-in-Err-clause-stop : goal.returns-in-Err-clause-stop
returns-in-Err-clause-stop g c =
    rw c.from.ensures
    (run_stops _ _ _ _ (IsRunOnEither c.args.ring.now c.args.rank c.args.left.now c.args.right.now) NoTrail
    c.args.ring.now c.args.rank c.args.left.now c.in-Err.stop (inl (refl, refl, refl)) c.in-Err.ensures.stop)

pub returns-in-Err-reduced-clause-stop : goal.returns-in-Err-reduced-clause-stop
returns-in-Err-reduced-clause-stop g c =
    rw c.from-in-Err-reduced.ensures
    (later_stops _ _ _ _ _ _ (IsRunOnEither c.args.ring.now c.args.rank c.args.left.now c.args.right.now) NoTrail _ c.in-Ok.ensures.same
    (run_stops _ _ _ _ (IsRunOnEither c.args.ring.now c.args.rank c.args.left.now c.args.right.now) NoTrail
    c.args.ring.now c.args.rank c.args.right.now c.in-Err-reduced.stop (inr (refl, refl, refl)) c.in-Err-reduced.ensures.stop))

pub returns-clause-equal : goal.returns-clause-equal
returns-clause-equal g c =
    let ring = c.args.ring.now in
    let rank = c.args.rank in
    let lawful = c.lawful_setting.ensures rank in
    let a = c.in-Ok.ensures.basis in
    let b = c.in-Ok-reduced.ensures.basis in (
      λ yes.
          let e = sym c.as_slice.ensures ∙ c.are_one.ensures.0 yes ∙ c.as_slice-2.ensures in
          members_of_one ring rank lawful c.args.left.now c.args.right.now c.in-Ok.first c.requires.left_positions c.requires.right_positions a
          (subst (IsReducedBasisOf ring rank c.args.right.now) (sym e) b),
      λ same.
          let e = c.one_basis.ensures rank c.args.left.now c.in-Ok.first c.in-Ok-reduced.second a
          (record { vectors = b.vectors; positions = b.positions; basis = one_of_members ring rank lawful c.args.left.now c.args.right.now c.in-Ok.first c.in-Ok-reduced.second a b same }) in
          c.are_one.ensures.1 (c.as_slice.ensures ∙ e ∙ sym c.as_slice-2.ensures),
    )

pub returns-clause-apart : goal.returns-clause-apart
returns-clause-apart g c = λ no.
    let ring = c.args.ring.now in
    let rank = c.args.rank in
    let left = c.args.left.now in
    let right = c.args.right.now in
    settle (λ same. no ((returns-clause-equal g c).1 same))
    (same_or_apart ring rank left right c.in-Ok.first c.in-Ok-reduced.second (c.lawful_setting.ensures rank)
    c.requires.left_positions c.requires.right_positions c.in-Ok.ensures.basis c.in-Ok-reduced.ensures.basis)

pub reduced-requires-clause-vectors : goal.reduced-requires-clause-vectors
reduced-requires-clause-vectors g c = c.requires.left

pub reduced-requires-clause-positions : goal.reduced-requires-clause-positions
reduced-requires-clause-positions g c = c.requires.left_positions

pub reduced-requires-2-clause-vectors : goal.reduced-requires-2-clause-vectors
reduced-requires-2-clause-vectors g c = c.requires.right

pub reduced-requires-2-clause-positions : goal.reduced-requires-2-clause-positions
reduced-requires-2-clause-positions g c = c.requires.right_positions

pub returns-in-Err-reduced-clause-runs : goal.returns-in-Err-reduced-clause-runs
returns-in-Err-reduced-clause-runs g c = two_runs _ _ _ c.in-Ok.ensures.run c.in-Err-reduced.ensures.run

pub returns-clause-runs : goal.returns-clause-runs
returns-clause-runs g c = two_runs _ _ _ c.in-Ok.ensures.run c.in-Ok-reduced.ensures.run
