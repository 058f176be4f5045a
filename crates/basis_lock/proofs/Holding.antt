-- One hold and one event
use Rattle.std.proofs.Common.{List, None, Option, Some, ap, cond, refl, subst, sym, true, ℕ, ◌∙◌, ◌≡◌}
use Rattle.module_vectors.specs.declared.trail.KeptTrail.{KeptTrail}
use Rattle.module_vectors.specs.declared.trail.WorkStop.{WorkStop}
use Rattle.module_vectors.specs.declared.trail.WorkStop.TheVariants as works
use Rattle.basis_steps.specs.States as plain
use Rattle.basis_steps.specs.States.{vectors}
use Rattle.basis_steps.specs.Steps as steps
use Rattle.basis_steps.specs.Trails.{IsJobTrail}
use Rattle.basis_core.specs.declared.ending.Ending.{Ending}
use Rattle.basis_core.specs.declared.ending.Ending.TheVariants as endings
use Rattle.basis_core.specs.Answers.{IsRunTrail, PutStops}
use Rattle.basis_core.specs.Members.{MemberShown, members_of}
use Rattle.basis_core.specs.Outcomes.{OutcomeShown}
use Rattle.basis_core.specs.Shown.{Shown}
use Rattle.basis_core.specs.Stops.{trail_of}
use Rattle.basis_core.specs.Views.{IsSameRun, ending_of, run_of, state_of, variables_of}
use Rattle.ruled_lock.specs.declared.law.View.{View}
use Rattle.ruled_lock.specs.Plays.{AddsEvent, Sees, added, freed, held}
use Rattle.ruled_lock.proofs.Steps.{makes}
use Rattle.basis_lock.specs.Acts.{acts_of, has_stop}
use Rattle.basis_lock.specs.Calls.{IsHold, IsTrailSeen, IsWorkStopSeen}
use Rattle.basis_core.specs.Logs.{Adds, Base, Noted, base, by, log}
use Rattle.basis_lock.proofs.Acting.{runs_stop_kept}
use Rattle.basis_lock.proofs.May.{given_seen, log_acts, stop-append}
use Rattle.basis_core.proofs.Logging.{members_told}

-- the hold, by what the lock tells and the event that the core adds
pub hold_of :
    (b : Base) (v : View Noted Base) (e : Noted) (w : View Noted Base) (s t : Shown)
    → Sees by v (log s) → base s ≡ b → IsSameRun s t → Adds e s t → by e ≡ v.worker
    → w ≡ freed (added (held v (log s)) (log t)) → steps.Replays (run_of (variables_of t) t) (state_of (variables_of t) t)
    → IsHold b v e w s t
hold_of b v e w s t sees at same more own is replays = record {
  makes = subst (AddsEvent by v e) (sym is) (makes by v e (log s) (log t) more.0 own sees);
  before = at;
  after = more.1 ∙ at;
  run = same;
  history = more.0;
  seen = ap (λ (u : View Noted Base). u.seen) is;
  replays = replays;
}

-- a trail of the run is one of what was seen, where this is the whole history
trail_seen : (s : Shown) (t : KeptTrail) → IsRunTrail (variables_of s) s t → IsTrailSeen (base s) (log s) t
trail_seen s t h = record {
  pair = h.pair;
  job = (h.way).job;
  given = given_seen (variables_of s) s (h.way).job (h.way).given;
  way = subst (λ (ms : List MemberShown). IsJobTrail (run_of (variables_of s) s) (vectors (members_of (variables_of s) ms)) (h.way).job (trail_of (variables_of s) t)) (sym (members_told s)) (h.way).way;
}

pub put_stops :
    (b : Base) (seen : List Noted) (s : Shown) (o : OutcomeShown) (stop : WorkStop)
    → base s ≡ b → seen ≡ log s → PutStops (variables_of s) s o stop → IsWorkStopSeen b seen stop
put_stops b seen s o works.Memory at is h = tt
put_stops b seen s o (works.Degree t) at is h = subst (λ (z : Base × List Noted). IsTrailSeen z.0 z.1 t) (λ i. (at i, sym is i)) (trail_seen s t h.trail)

-- where a Stop was seen, who would end ends
pub ends_stopped :
    (s : Shown) (v : View Noted Base) (ending : Ending)
    → steps.Replays (run_of (variables_of s) s) (state_of (variables_of s) s) → Sees by v (log s) → has_stop (acts_of v.seen) ≡ true
    → ending_of ending ≡ steps.end_answer_of (state_of (variables_of s) s) → ending ≡ endings.Ended
ends_stopped s v ending replays sees seen answers =
    let n : ℕ = variables_of s in
    let all : has_stop (acts_of (log s)) ≡ true = ap (λ l. has_stop (acts_of l)) sees.0.1 ∙ stop-append v.seen sees.0.0 seen in
    let none : (state_of n s).stop ≡ None → ⊥ = runs_stop_kept (run_of n s) replays.0 (state_of n s) (state_of n s).history replays.2 (ap has_stop (sym (log_acts n s)) ∙ all) in
    named ending (answers ∙ told (state_of n s).stop none)
  where
    told : (o : Option (plain.StopReason (variables_of s))) → (o ≡ None → ⊥) → cond (steps.is_stopped o) plain.Ended (cond (steps.is_empty s.queue) plain.Ended plain.MoreWork) ≡ plain.Ended
    told None h = absurd (h refl)
    told (Some reason) h = refl

    named : (e : Ending) → ending_of e ≡ plain.Ended → e ≡ endings.Ended
    named endings.Ended h = refl
    named endings.MoreWork h = absurd cc
