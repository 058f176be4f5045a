-- A run at its beginning, and the state that its workers leave
use Rattle.std.proofs.Common.{Bool, Err, IfErr, IfOk, List, None, Ok, Option, Result, Some, [], ap, cond, false, inl, inr, refl, subst, sym, true, ℕ, ◌<◌, ◌==◌, ◌∙◌, ◌∷◌, ◌≡◌}
use Rattle.term_lists.specs.Rings.{variables}
use Rattle.term_lists.specs.declared.key.Key.{Key as CodeKey}
use Rattle.term_lists.specs.declared.ring.Ring.{Ring}
use Rattle.module_vectors.specs.declared.trail.WorkStop.{WorkStop}
use Rattle.queue_updates.specs.declared.Update.{Update}
use Rattle.basis_steps.specs.Invariant.{HaveAllEnded}
use Rattle.basis_steps.specs.Steps.{Begins, Replays}
use Rattle.budget_stops.proofs.Moments.{taken_at_stop}
use Rattle.basis_core.specs.declared.event.Event.{Event}
use Rattle.basis_core.specs.declared.stop.StopReason.{StopReason}
use Rattle.basis_core.specs.declared.stop.StopReason.TheVariants as reasons
use Rattle.basis_core.specs.Answers.{IsRunOf}
use Rattle.basis_core.specs.Members.{Shared, MemberShown}
use Rattle.basis_core.specs.Shown.{Shown}
use Rattle.basis_core.specs.Stops.{stop_of}
use Rattle.basis_core.specs.Views.{history_of, run_of, state_of, variables_of}
use Rattle.ruled_lock.specs.Events.{calls_by}
use Rattle.basis_lock.specs.Acts.{Act, Asked, HandedIn, Stopped, Took, actor, has_ended_by_acts, has_stop}
use Rattle.basis_core.specs.Logs.{by, log, notes_from, number_at_beginning}
use Rattle.basis_lock.proofs.Acting.{acts_of_events, runs_ended, runs_stop_kept}
use Rattle.basis_lock.proofs.May.{own_same}
use Rattle.run_endings.specs.Endings.{IsBudgetStop}
use Rattle.run_endings.specs.Stops.{IsRunBy, OfState, RunStops}
use Rattle.run_endings.specs.declared.stop.RunStop.{RunStop}
use Rattle.run_endings.specs.declared.stop.RunStop.TheVariants as run_stops
use Rattle.f4_engine.specs.Runs.{IsFreshState}
use Rattle.f4_engine.specs.Workers.{EachDone, EachTook}

no_events : (n : ℕ) (ms : List MemberShown) (kept : Option StopReason) (es : List Event) → history_of n ms kept es ≡ [] → es ≡ []
no_events n ms kept [] h = refl
no_events n ms kept (e ∷ es) h = absurd cc

-- a run at its beginning has an empty log
new_at_beginning : (shared : Shared) (budget workers : ℕ) (update : Update) (s : Shown) → 0 < workers → IsRunOf shared budget workers update s → Begins (run_of (variables shared.ring) s) (state_of (variables shared.ring) s) → IsFreshState s
new_at_beginning shared budget workers update s some run begins = record {
  empty = ap (λ es. notes_from (number_at_beginning s) s.members es) (no_events (variables shared.ring) s.members s.stop s.history begins.history);
  some = subst (λ k. 0 < k) (sym run.number) some;
}

pub begins_new :
    (ring : Ring) (rank : ℕ) (generators : List (List (CodeKey × ℕ))) (budget workers : ℕ) (update : Update) (r : Result Shown WorkStop) → 0 < workers
    → IfOk r (IsRunOf (record { ring = ring; rank = rank; generators = generators }) budget workers update)
    → IfOk r (λ s. Begins (run_of (variables ring) s) (state_of (variables ring) s))
    → IfOk r IsFreshState
begins_new ring rank generators budget workers update (Ok s) some run begins = new_at_beginning (record { ring = ring; rank = rank; generators = generators }) budget workers update s some run begins
begins_new ring rank generators budget workers update (Err e) some run begins = tt

-- who has ended by its events has ended
pub all_ended : (s : Shown) → Replays (run_of (variables_of s) s) (state_of (variables_of s) s) → EachDone s.workers (log s) → HaveAllEnded (run_of (variables_of s) s) (state_of (variables_of s) s)
all_ended s (first, begins, runs) done w known =
    let n : ℕ = variables_of s in
    runs_ended (run_of n s) w first (state_of n s) (state_of n s).history runs (ap has_ended_by_acts (sym (own_same n w s)) ∙ (done w known).ended)

-- a Stop of one worker is one of all
stop_among : (w : ℕ) (acts : List Act) → has_stop (calls_by actor w acts) ≡ true → has_stop acts ≡ true
stop_among w [] h = absurd cc
stop_among w (Took v job ∷ acts) h = stop_among w acts (go (w == v) h)
  where
    go : (b : Bool) → has_stop (cond b (Took v job ∷ calls_by actor w acts) (calls_by actor w acts)) ≡ true → has_stop (calls_by actor w acts) ≡ true
    go true k = k
    go false k = k
stop_among w (HandedIn v ∷ acts) h = stop_among w acts (go (w == v) h)
  where
    go : (b : Bool) → has_stop (cond b (HandedIn v ∷ calls_by actor w acts) (calls_by actor w acts)) ≡ true → has_stop (calls_by actor w acts) ≡ true
    go true k = k
    go false k = k
stop_among w (Asked v ending ∷ acts) h = stop_among w acts (go (w == v) h)
  where
    go : (b : Bool) → has_stop (cond b (Asked v ending ∷ calls_by actor w acts) (calls_by actor w acts)) ≡ true → has_stop (calls_by actor w acts) ≡ true
    go true k = k
    go false k = k
stop_among w (Stopped v ∷ acts) h = refl

-- where no stop is kept, who has ended has taken
pub all_took : (s : Shown) → Replays (run_of (variables_of s) s) (state_of (variables_of s) s) → EachDone s.workers (log s) → s.stop ≡ None → EachTook s.workers (log s)
all_took s (first, begins, runs) done none w known =
    let n : ℕ = variables_of s in
    elim (done w known).took [
      | inl took ↦ took
      | inr stopped ↦ absurd (runs_stop_kept (run_of n s) first (state_of n s) (state_of n s).history runs
          (stop_among w (acts_of_events (state_of n s).history) (ap has_stop (sym (own_same n w s)) ∙ stopped)) (ap (stop_of n) none))
    ]

-- a stop by the budget, with as many pairs taken
pub budget_stop : (s : Shown) → Replays (run_of (variables_of s) s) (state_of (variables_of s) s) → s.stop ≡ Some reasons.Pairs → IsBudgetStop s
budget_stop s runs kept = record { stop = kept; taken = taken_at_stop (run_of (variables_of s) s) (state_of (variables_of s) s) runs (ap (stop_of (variables_of s)) kept) }

-- what holds of the state that is handed back
pub state_back : {A E : Type 0} (P : Shown → Type 0) (s : Shown) (r : Result (A × Shown) E) → IfOk r (λ t. t.1 ≡ s) → P s → IfOk r (λ t. P t.1)
state_back P s (Ok t) e h = subst P (sym e) h
state_back P s (Err x) e h = tt

-- and of the state that is kept with a stop
of_state : (P : Shown → Type 0) (s : Shown) (stop : RunStop) → OfState (λ t. t ≡ s) stop → P s → OfState P stop
of_state P s run_stops.Memory e h = tt
of_state P s (run_stops.Pairs t) e h = subst P (sym e) h
of_state P s (run_stops.Beginning t) e h = tt
of_state P s (run_stops.Degree t trail) e h = subst P (sym e) h

pub state_stopped : {A : Type 0} (P : Shown → Type 0) (s : Shown) (r : Result A RunStop) → IfErr r (OfState (λ t. t ≡ s)) → P s → IfErr r (OfState P)
state_stopped P s (Ok t) e h = tt
state_stopped P s (Err stop) e h = of_state P s stop e h

-- the workers leave a run with the budget, the number of workers and the update that it began with
pub left_by : (shared : Shared) (pairs workers : ℕ) (update : Update) (s t : Shown) → IsRunOf shared pairs workers update s → IsRunBy s.budget s.workers s.update t
    → IsRunBy pairs workers update t
left_by shared pairs workers update s t run by = record { budget = by.budget ∙ run.most; workers_are = by.workers_are ∙ run.number; update_is = by.update_is ∙ run.queues }

-- a stop of the closing is one of the run
pub closing_stops :
    {A : Type 0} (pairs workers : ℕ) (update : Update) (shared : Shared) (s : Shown) (r : Result A RunStop) → s.shared ≡ shared → IsRunBy pairs workers update s
    → IfErr r (λ stop. (pairs workers : ℕ) (update : Update) → IsRunBy pairs workers update s → RunStops pairs workers update s.shared stop)
    → IfErr r (RunStops pairs workers update shared)
closing_stops pairs workers update shared s (Ok t) over by h = tt
closing_stops pairs workers update shared s (Err stop) over by h = subst (λ (sh : Shared). RunStops pairs workers update sh stop) over (h pairs workers update by)
