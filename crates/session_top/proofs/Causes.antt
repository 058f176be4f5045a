-- Why a line stopped a script, from what the engine keeps of the run that stopped.
use Rattle.std.proofs.Common.{◌≡◌, ℕ, List, [], ◌∷◌, inl, inr, IfSome, sym, ap, subst, refl, arith}
use Rattle.std.specs.declared.option.Option.{Option}
use Rattle.std.specs.declared.option.Option.TheVariants.{None, Some}
use Rattle.module_vectors.specs.declared.trail.KeptTrail.{KeptTrail}
use Rattle.basis_steps.specs.Steps.{Replays}
use Rattle.budget_stops.proofs.Moments.{budget_moment}
use Rattle.queue_updates.specs.declared.Update.{Update}
use Rattle.queue_updates.specs.declared.Update.TheVariants.{Gebauer, Plain}
use Rattle.basis_core.specs.Members.{Shared}
use Rattle.basis_core.specs.Shown.{Shown}
use Rattle.basis_core.specs.Stops.{stop_of}
use Rattle.basis_core.specs.Views.{run_of, state_of, variables_of}
use Rattle.groebner_iface.specs.Calls.{CallStops, StopsAtRun}
use Rattle.groebner_iface.specs.Runs.{StoppedRun}
use Rattle.groebner_iface.specs.declared.stop.Stop.{Stop}
use Rattle.groebner_iface.specs.declared.stop.OpStop.TheVariants as causes
use Rattle.run_endings.specs.Stops.{IsRunBy, IsStop, number_of_update, stopped_on, stopped_run}
use Rattle.session_lang.specs.Lines.{RunOf}
use Rattle.session_values.specs.Names.{ScriptState}
use Rattle.session_lang.specs.Stops.{TrailOf}
use Rattle.session_top.specs.Parts.{LineStops, StopEnds}
use Rattle.session_top.specs.Stops.{IsRunState, StopsScript}
use Rattle.session_top.specs.declared.early.Early.{Early}
use Rattle.session_top.proofs.Shown.{stopped_stops}
use Rattle.session_top.specs.Limits.{Limits}

-- the state replays its history
abbrev pub HasReplay : Shown → Type 0
HasReplay s = Replays (run_of (variables_of s) s) (state_of (variables_of s) s)

no_run : (run : StoppedRun) → None ≡ Some run → ⊥
no_run run same = cc

-- the run on these is one of the line, where the run that was stopped is
run_here : (before : ScriptState) (line : List ℕ) (shared : Shared) (answer : Stop) (run : StoppedRun) → Some (stopped_on shared answer) ≡ Some run
    → RunOf before line run.ring run.rank run.list → RunOf before line shared.ring shared.rank shared.generators
run_here before line shared answer run same here =
    let is : stopped_on shared answer ≡ run = cc in
    subst (λ r. RunOf before line r.ring r.rank r.list) (sym is) here

run_state : (limits : Limits) (before : ScriptState) (line : List ℕ) (s : Shown) → RunOf before line s.shared.ring s.shared.rank s.shared.generators
    → HasReplay s → IsRunBy limits.pairs limits.workers limits.update s → IsRunState limits before line s
run_state limits before line s here replays one = record { run = here; replays = replays; budget = one.budget; workers = one.workers_are; update = one.update_is }

-- what is kept of a run of the line that stopped
pub run_cause : (limits : Limits) (before : ScriptState) (line : List ℕ) (state : Option Shown) (trail : Option KeptTrail) (run : StoppedRun)
    → stopped_run state trail ≡ Some run → RunOf before line run.ring run.rank run.list → IsStop limits.pairs limits.workers limits.update state trail → IfSome state HasReplay
    → StopsScript limits before line state trail
run_cause limits before line None None run same here stop replays = no_run run same
run_cause limits before line (Some s) None run same here (one, stop) replays = record {
  run = run_state limits before line s (run_here before line s.shared _ run same here) replays one;
  taken = stop.taken;
  moment = budget_moment (run_of (variables_of s) s) (state_of (variables_of s) s) replays (ap (stop_of (variables_of s)) stop.stop);
}
run_cause limits before line None (Some t) run same here stop replays = inr (run_here before line _ _ run same here, stop)
run_cause limits before line (Some s) (Some t) run same here (one, stop) replays =
    (run_state limits before line s (run_here before line s.shared _ run same here) replays one, stop)

-- the settings of an engine with these limits
abbrev settings_of : Limits → List ℕ
settings_of p = p.pairs ∷ p.workers ∷ p.helpers ∷ number_of_update p.update ∷ []

same_numbers : (p q r u p' q' r' u' : ℕ) → p ∷ q ∷ r ∷ u ∷ [] ≡ p' ∷ q' ∷ r' ∷ u' ∷ [] → (p ≡ p') × (q ≡ q') × (r ≡ r') × (u ≡ u')
same_numbers p q r u p' q' r' u' same = (cc, cc, cc, cc)

same_update : (u v : Update) → number_of_update u ≡ number_of_update v → u ≡ v
same_update Plain Plain e = refl
same_update Plain Gebauer e = absurd (let f : ◌≡◌ {A = ℕ} 0 1 = e in omega (arith, f))
same_update Gebauer Plain e = absurd (let f : ◌≡◌ {A = ℕ} 1 0 = e in omega (arith, f))
same_update Gebauer Gebauer e = refl

-- limits are known by the settings of their engine
pub same_limits : (p q : Limits) → settings_of p ≡ settings_of q → p ≡ q
same_limits p q same =
    let all = same_numbers p.pairs p.workers p.helpers (number_of_update p.update) q.pairs q.workers q.helpers (number_of_update q.update) same in
    let update = same_update p.update q.update all.3 in
    λ i. record { pairs = all.0 i; workers = all.1 i; helpers = all.2 i; update = update i }

-- a run of the line stopped, and its stop line or a front of it was written
pub run_stopped : (a b : Option (List ℕ)) (limits kept_limits : Limits) (before : ScriptState) (line : List ℕ) (number : ℕ) (old new : ℕ) (answer : Stop)
    (state : Option Shown) (trail : Option KeptTrail) (stop : Early) → settings_of kept_limits ≡ settings_of limits
    → StopsAtRun (RunOf before line) old new (stopped_run state trail) answer
    → IsStop kept_limits.pairs kept_limits.workers kept_limits.update state trail → IfSome state HasReplay
    → StopEnds a b number state trail stop → LineStops a b limits before line number stop
run_stopped a b limits kept_limits before line number old new answer state trail stop settings (rose, (ring, rank, list, here, same)) kept replays says =
    let is_stop = subst (λ (p : Limits). IsStop p.pairs p.workers p.update state trail) (same_limits kept_limits limits settings) kept in
    stopped_stops a b limits before line number state trail stop
    (run_cause limits before line state trail (record { ring = ring; rank = rank; list = list; answer = answer }) same here is_stop replays) says

-- a division of the line stopped, and its stop line or a front of it was written
pub division_stopped : (a b : Option (List ℕ)) (limits : Limits) (before : ScriptState) (line : List ℕ) (number : ℕ) (old new : ℕ) (kept kept' : Option StoppedRun)
    (t : KeptTrail) (stop : Early) → CallStops (RunOf before line) (TrailOf before line) old new kept kept' (causes.Trail t)
    → StopEnds a b number None (Some t) stop → LineStops a b limits before line number stop
division_stopped a b limits before line number old new kept kept' t stop (count, same, met) says =
    stopped_stops a b limits before line number None (Some t) stop (inl met) says
