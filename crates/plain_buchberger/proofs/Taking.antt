-- The state after a Take, a Put, an End or a Stop of the only worker
use Rattle.std.proofs.Common.{Bool, Err, IfOk, List, None, Ok, Option, Result, Some, [], ap, arith, cond, false, get_or, inl, inr, length, nat_eq, refl, slice_set, subst, suc, sym, true, zero, ℕ, ◌++◌, ◌+◌, ◌<◌, ◌∙◌, ◌∷◌, ◌≡◌, ◌≤◌}
use Rattle.term_lists.specs.Rings.{variables}
use Rattle.term_lists.specs.declared.key.Key.{Key as CodeKey}
use Rattle.term_lists.specs.declared.ring.Ring.{Ring}
use Rattle.module_vectors.specs.declared.trail.KeptTrail.{KeptTrail}
use Rattle.module_vectors.specs.declared.trail.WorkStop.{WorkStop}
use Rattle.queue_updates.specs.declared.Update.{Update}
use Rattle.basis_steps.specs.Criteria.{NoCriterionApplies, waiting}
use Rattle.basis_steps.specs.Invariant.{HaveAllEnded}
use Rattle.basis_steps.specs.Histories.{HasStopped, took_since}
use Rattle.basis_steps.specs.Pairs.{Pair}
use Rattle.basis_steps.specs.States as plain
use Rattle.basis_steps.specs.States.{Run, job_of, vectors}
use Rattle.basis_steps.specs.Steps.{Begins, Ends, MayEnd, Puts, Stops, Takes, none_ended, out_with, stop_of_take}
use Rattle.basis_steps.specs.Trails.{HasGiven}
use Rattle.basis_steps.specs.Steps as steps
use Rattle.basis_steps.proofs.Taking.{budget_met}
use Rattle.basis_core.specs.declared.ending.Ending.{Ending}
use Rattle.basis_core.specs.declared.stop.StopReason.{StopReason}
use Rattle.basis_core.specs.declared.stop.StopReason.TheVariants as reasons
use Rattle.basis_core.specs.declared.taken.Taken.{Taken}
use Rattle.basis_core.specs.declared.taken.Taken.TheVariants.{Job as TookJob, Empty, Stopped}
use Rattle.basis_core.specs.Answers.{AnswersTake, IsRunOf, IsTaken, PutsOutcome, pairs_given}
use Rattle.basis_core.specs.Jobs.{JobShown, pairs_of}
use Rattle.basis_core.specs.Members.{Shared, MemberShown, members_of, reduct_rows_of, setting_of}
use Rattle.basis_core.specs.Outcomes.{OutcomeShown, indexed_products_of}
use Rattle.basis_core.specs.Shown.{Shown}
use Rattle.basis_core.specs.Stops as stops
use Rattle.basis_core.specs.Stops.{reason_of, stop_of}
use Rattle.basis_core.specs.Views.{IsSameRun, ending_of, run_of, state_of, variables_of}
use Rattle.run_endings.specs.Endings.{IsBudgetStop, IsClosed}
use Rattle.plain_buchberger.specs.Rounds.{IsFree, IsOut, IsRunning, KeepsDegree, LeavesPairs}
use Rattle.plain_buchberger.proofs.Jobs.{given_last, job_of-append, job_of_out_with, job_of_with_others, took_now, unstopped_put, unstopped_take}

pub same_variables : (s t : Shown) → IsSameRun s t → variables_of s ≡ variables_of t
same_variables s t same = sym (ap (λ (sh : Shared). variables sh.ring) same.shared)

-- where no stop is kept, the plain state has none, and so back
stops_none : (n : ℕ) (o : Option StopReason) → stop_of n o ≡ None → o ≡ None
stops_none n None e = refl
stops_none n (Some reason) e = absurd cc

stops_pairs : (n : ℕ) (o : Option StopReason) → stop_of n o ≡ Some plain.Pairs → o ≡ Some reasons.Pairs
stops_pairs n None e = absurd cc
stops_pairs n (Some reasons.Pairs) e = refl
stops_pairs n (Some reasons.Memory) e = absurd cc
stops_pairs n (Some (reasons.Degree t)) e = absurd cc

stops_degree : (n : ℕ) (o : Option StopReason) (way : plain.Trail n) → stop_of n o ≡ Some (plain.Degree way) → (t : KeptTrail) × (o ≡ Some (reasons.Degree t))
stops_degree n None way e = absurd cc
stops_degree n (Some reasons.Pairs) way e = absurd cc
stops_degree n (Some reasons.Memory) way e = absurd cc
stops_degree n (Some (reasons.Degree t)) way e = (t, refl)

-- a Take with no stop kept
abbrev TakesNow : (n : ℕ) (s : Shown) (answer : Taken) (t : Shown) → Type 0
TakesNow n s answer t = (skipped : List Pair) × (left : List Pair) × Takes (run_of n s) (state_of n s) 0 1 skipped (pairs_given answer) left (state_of n t)

takes_now : (n : ℕ) (s : Shown) (answer : Taken) (t : Shown) → s.stop ≡ None → IsTaken n s 0 1 answer t → TakesNow n s answer t
takes_now n s answer t none (skipped, added, inl f) = absurd (let kept : stop_of n s.stop ≡ Some f.kept.0 = f.kept.1 in let nothing : stop_of n s.stop ≡ None = ap (stop_of n) none in cc)
takes_now n s answer t none (skipped, added, inr (left, h)) = (skipped, left, h)

module _ (s t : Shown) (free : IsFree s) (same : IsSameRun s t) where
  -- what each Take leaves
  runs_after_take : (answer : Taken) → t.stop ≡ None → TakesNow (variables_of s) s answer t → IsRunning t
  runs_after_take answer none (skipped, left, h) = record {
    alone = same.workers ∙ free.runs.alone;
    stop = none;
    works = ap (λ u. get_or u.ended 0 true) h.after ∙ free.runs.works;
    unstopped =
        subst (λ k. HasStopped 0 (state_of k t).history → ⊥) (same_variables s t same)
        (subst (λ es. HasStopped 0 es → ⊥) (sym (ap (λ u. u.history) h.after)) (unstopped_take 0 0 skipped (pairs_given answer) (state_of (variables_of s) s).history free.runs.unstopped));
  }

  out_of_take : (answer : Taken) → TakesNow (variables_of s) s answer t → job_of 0 t.out ≡ pairs_given answer
  out_of_take answer (skipped, left, h) =
      ap (λ u. job_of 0 u.out) h.after
      ∙ job_of-append 0 s.out (out_with 0 (pairs_given answer))
      ∙ ap (λ xs. xs ++ job_of 0 (out_with 0 (pairs_given answer))) free.free
      ∙ job_of_out_with 0 (pairs_given answer)

  pub out_after_take :
      (job : JobShown) → IsTaken (variables_of s) s 0 1 (TookJob job) t → AnswersTake 0 t (TookJob job)
      → IsOut t job × (t.taken ≡ s.taken + length (pairs_of job.pairs))
  out_after_take job taken answers = go (takes_now (variables_of s) s (TookJob job) t free.runs.stop taken)
    where
      go : TakesNow (variables_of s) s (TookJob job) t → IsOut t job × (t.taken ≡ s.taken + length (pairs_of job.pairs))
      go (skipped, left, h) = (
        record {
          runs = runs_after_take (TookJob job) answers.0 (skipped, left, h);
          worker = answers.1;
          shared = answers.2;
          members = answers.3;
          out = out_of_take (TookJob job) (skipped, left, h);
          given =
              subst (λ k. HasGiven (state_of k t).history (pairs_of job.pairs)) (same_variables s t same)
              (subst (λ es. HasGiven es (pairs_of job.pairs)) (sym (ap (λ u. u.history) h.after)) (given_last (state_of (variables_of s) s).history 0 skipped (pairs_of job.pairs)));
        },
        ap (λ u. u.taken) h.after,
      )

  pub may_end_after_take : IsTaken (variables_of s) s 0 1 Empty t → AnswersTake 0 t Empty → MayEnd (run_of (variables_of t) t) (state_of (variables_of t) t) 0
  may_end_after_take taken answers = go (takes_now (variables_of s) s Empty t free.runs.stop taken)
    where
      go : TakesNow (variables_of s) s Empty t → MayEnd (run_of (variables_of t) t) (state_of (variables_of t) t) 0
      go (skipped, left, h) =
          let runs : IsRunning t = runs_after_take Empty answers.0 (skipped, left, h) in
          subst (λ k. MayEnd (run_of k t) (state_of k t) 0) (same_variables s t same) (record {
            known = let one = runs.alone in omega (arith, one);
            works = runs.works;
            done = λ _. (
              out_of_take Empty (skipped, left, h),
              ap (λ u. took_since 0 u.history false) h.after ∙ took_now 0 skipped [] (state_of (variables_of s) s).history false,
            );
          })

  -- a stop that a Take keeps is the one by the budget
  kept_by_take : {m : ℕ} (r : Run m) (taken : ℕ) (left : List Pair) (x : plain.StopReason m) → stop_of_take r taken left ≡ Some x → stop_of_take r taken left ≡ Some plain.Pairs
  kept_by_take r taken [] x e = absurd cc
  kept_by_take {m = m} r taken (y ∷ left) x e = go (nat_eq taken r.budget) e
    where
      go : (b : Bool) → ◌≡◌ {A = Option (plain.StopReason m)} (cond b (Some plain.Pairs) None) (Some x) → ◌≡◌ {A = Option (plain.StopReason m)} (cond b (Some plain.Pairs) None) (Some plain.Pairs)
      go true q = refl
      go false q = absurd cc

  pub budget_after_take : IsTaken (variables_of s) s 0 1 Stopped t → AnswersTake 0 t Stopped → IsBudgetStop t × LeavesPairs t
  budget_after_take taken (reason, kept) = go (takes_now (variables_of s) s Stopped t free.runs.stop taken)
    where
      go : TakesNow (variables_of s) s Stopped t → IsBudgetStop t × LeavesPairs t
      go (skipped, left, h) =
          let k : ℕ = variables_of s in
          let after : stop_of k t.stop ≡ stop_of_take (run_of k s) s.taken left = ap (λ u. u.stop) h.after in
          let stop : stop_of k t.stop ≡ Some plain.Pairs = after ∙ kept_by_take (run_of k s) s.taken left (reason_of k reason) (sym after ∙ ap (stop_of k) kept) in
          let met = budget_met (run_of k s) (state_of k s) (state_of k t) 0 1 skipped [] left h stop in (
            record { stop = stops_pairs k t.stop stop; taken = met.0 ∙ sym same.budget },
            record {
              queued = met.1;
              none_applies = λ e.
                  subst (λ (sh : Shared). NoCriterionApplies (setting_of (variables sh.ring) sh) (vectors (members_of (variables sh.ring) t.members)) (waiting t.queue t.out) t.queue) (sym same.shared) (met.2 (sym same.update ∙ e));
            },
          )

first_ended : (es : List Bool) → get_or (slice_set es 0 true) 0 true ≡ true
first_ended [] = refl
first_ended (e ∷ es) = refl

-- where there is one worker and it has ended, all have
only_one : (u : Shown) → u.workers ≡ 1 → get_or u.ended 0 true ≡ true → HaveAllEnded (run_of (variables_of u) u) (state_of (variables_of u) u)
only_one u one ended zero h = ended
only_one u one ended (suc w) h = absurd (omega (arith, h, one))

pub closed_after_end :
    (t u : Shown) (ending : Ending) → t.workers ≡ 1 → AnswersTake 0 t Empty → IsSameRun t u
    → Ends (run_of (variables_of t) t) (state_of (variables_of t) t) 0 (ending_of ending) (state_of (variables_of t) u)
    → IsClosed u
closed_after_end t u ending one (none, empty) same h =
    let n : ℕ = variables_of t in
    let answer : ending_of ending ≡ plain.Ended =
    h.answers ∙ ap (λ (o : Option StopReason). cond (steps.is_stopped (stop_of n o)) plain.Ended (cond (steps.is_empty t.queue) plain.Ended plain.MoreWork)) none ∙ ap (λ q. cond (steps.is_empty q) plain.Ended plain.MoreWork) empty in
    record {
      stop = stops_none n u.stop (ap (λ z. z.stop) h.after ∙ ap (stop_of n) none);
      ended =
          only_one u (same.workers ∙ one)
          (ap (λ z. get_or z.ended 0 true) h.after ∙ ap (λ e. get_or (steps.ended_after (state_of n t) 0 e) 0 true) answer ∙ first_ended t.ended);
    }

-- a Put of the outcome by this worker
abbrev PutsBy : (s : Shown) (o : OutcomeShown) (made : List MemberShown) (t : Shown) → ℕ → Type 0
PutsBy s o made t w =
    let n : ℕ = variables_of s in
    Puts (run_of n s) (state_of n s) w (length o.job.members) (reduct_rows_of n o.rows) (indexed_products_of n o.products) (members_of n made) (state_of n t)

pub free_after_put :
    (s t : Shown) (o : OutcomeShown) (made : List MemberShown) → IsOut s o.job → IsSameRun s t → PutsOutcome (variables_of s) s o made t
    → IsFree t × (t.taken ≡ s.taken)
free_after_put s t o made out same put = go (subst (PutsBy s o made t) out.worker put.puts)
  where
    go : PutsBy s o made t 0 → IsFree t × (t.taken ≡ s.taken)
    go h = (
      record {
        runs = record {
          alone = same.workers ∙ out.runs.alone;
          stop = stops_none (variables_of s) t.stop (ap (λ z. z.stop) h.after ∙ ap (stop_of (variables_of s)) out.runs.stop);
          works = ap (λ z. get_or z.ended 0 true) h.after ∙ out.runs.works;
          unstopped =
              subst (λ k. HasStopped 0 (state_of k t).history → ⊥) (same_variables s t same)
              (subst (λ es. HasStopped 0 es → ⊥) (sym (ap (λ z. z.history) h.after)) (unstopped_put 0 0 (members_of (variables_of s) made) (state_of (variables_of s) s).history out.runs.unstopped));
        };
        free = ap (λ z. job_of 0 z.out) h.after ∙ job_of_with_others 0 s.out;
      },
      ap (λ z. z.taken) h.after,
    )

pub keeps_after_stop :
    (s t : Shown) (trail : KeptTrail) → IsRunning s
    → Stops (run_of (variables_of s) s) (state_of (variables_of s) s) 0 (reason_of (variables_of s) (reasons.Degree trail)) (state_of (variables_of s) t)
    → KeepsDegree t
keeps_after_stop s t trail runs h =
    let n : ℕ = variables_of s in
    stops_degree n t.stop (stops.trail_of n trail) (ap (λ z. z.stop) h.after ∙ ap (λ (o : Option StopReason). steps.first_stop (stop_of n o) (reason_of n (reasons.Degree trail))) runs.stop)

-- a state at its beginning
pub free_at_beginning :
    (shared : Shared) (budget : ℕ) (update : Update) (s : Shown) → IsRunOf shared budget 1 update s
    → Begins (run_of (variables shared.ring) s) (state_of (variables shared.ring) s) → IsFree s
free_at_beginning shared budget update s run begins =
    let n : ℕ = variables shared.ring in
    let same : n ≡ variables_of s = sym (ap (λ (sh : Shared). variables sh.ring) run.over) in
    record {
      runs = record {
        alone = run.number;
        stop = stops_none n s.stop begins.stop;
        works = ap (λ z. get_or z 0 true) (begins.ended ∙ ap none_ended run.number);
        unstopped = subst (λ k. HasStopped 0 (state_of k s).history → ⊥) same (subst (λ es. HasStopped 0 es → ⊥) (sym begins.history) (λ h. h));
      };
      free = ap (λ o. job_of 0 o) begins.out;
    }

pub begins_free :
    (ring : Ring) (rank : ℕ) (generators : List (List (CodeKey × ℕ))) (budget : ℕ) (update : Update) (r : Result Shown WorkStop)
    → IfOk r (IsRunOf (record { ring = ring; rank = rank; generators = generators }) budget 1 update)
    → IfOk r (λ s. Begins (run_of (variables ring) s) (state_of (variables ring) s))
    → IfOk r IsFree
begins_free ring rank generators budget update (Ok s) run begins = free_at_beginning (record { ring = ring; rank = rank; generators = generators }) budget update s run begins
begins_free ring rank generators budget update (Err e) run begins = tt
