-- A state after a Stop
use Rattle.std.proofs.Common.{Global, List, None, Option, Some, Vec, [], ap, arith, length, length-append, refl, subst, suc, sym, vec_capacity, ℕ}
use Rattle.std.proofs.Common.{◌++◌, ◌+◌, ◌<◌, ◌∙◌, ◌∷◌, ◌≡◌, ◌≤◌}
use Rattle.formal_sums.specs.FormalSums.{Each}
use Rattle.basis_steps.specs.States as plain
use Rattle.basis_steps.specs.Histories.{HasStopped}
use Rattle.basis_steps.specs.States.{Trail, vectors}
use Rattle.basis_steps.specs.Steps as steps
use Rattle.basis_steps.specs.Trails.{IsHistoryTrail}
use Rattle.basis_core.specs.declared.event.Event.{Event}
use Rattle.basis_core.specs.declared.event.Event.TheVariants.{Stop}
use Rattle.basis_core.specs.declared.state.BasisState.TheInside.{Inside}
use Rattle.basis_core.specs.declared.stop.StopReason.{StopReason}
use Rattle.basis_core.specs.declared.stop.StopReason.TheVariants as reasons
use Rattle.basis_core.specs.Answers.{IsReason}
use Rattle.basis_core.specs.Inside.{HasReason, IsCoherentState, IsEventRead, IsStopOver, all_left, shown}
use Rattle.basis_core.specs.Shown.{Shown}
use Rattle.basis_core.specs.Stops.{IsReasonOver, reason_of, stop_of}
use Rattle.basis_core.specs.Views.{history_of, reason_given, run_of, state_of, variables_of}
use Rattle.basis_core.proofs.Growing.{StaysKept, history_same_members, read_more}
use Rattle.basis_core.proofs.Replaying.{replays_after}
use Rattle.basis_core.proofs.Room.{room_after_stop}

-- the state after a Stop
abbrev pub after_stop : Shown → Option StopReason → List Event → Shown
after_stop s kept es = record s { stop = kept; history = es }

-- the reason is kept where none is, and else the event has it
pub record KeepsFirst (kept after : Option StopReason) (reason : StopReason) (given : Option StopReason) : Type 0 where
  pub first : kept ≡ None → (after ≡ Some reason) × (given ≡ None)
  pub later : (one : StopReason) → kept ≡ Some one → (after ≡ Some one) × (given ≡ Some reason)

-- what worker w needs for a Stop
pub record MayStop (w : ℕ) (s : Shown) (reason : StopReason) : Type 0 where
  pub known : w < s.workers
  pub first : HasStopped w (state_of (variables_of s) s).history → ⊥
  pub why : IsReason (variables_of s) s reason

module _ (n : ℕ) (after : Option StopReason) (reason : StopReason) (given : Option StopReason) where
  keeps_stop : (kept : Option StopReason) → KeepsFirst kept after reason given → stop_of n after ≡ steps.first_stop (stop_of n kept) (reason_of n reason)
  keeps_stop None h = ap (stop_of n) ((h.first refl).0)
  keeps_stop (Some one) h = ap (stop_of n) ((h.later one refl).0)

  keeps_stays : (kept : Option StopReason) → KeepsFirst kept after reason given → StaysKept kept after
  keeps_stays kept h one e = (h.later one e).0

  keeps_given : (kept : Option StopReason) → KeepsFirst kept after reason given → reason_given n after given ≡ reason_of n reason
  keeps_given None h = λ i. reason_given n ((h.first refl).0 i) ((h.first refl).1 i)
  keeps_given (Some one) h = λ i. reason_given n ((h.later one refl).0 i) ((h.later one refl).1 i)

  keeps_reason : (kept : Option StopReason) → KeepsFirst kept after reason given → HasReason after given
  keeps_reason None h = subst (λ k. HasReason k given) (sym (h.first refl).0) (subst (HasReason (Some reason)) (sym (h.first refl).1) tt)
  keeps_reason (Some one) h = subst (λ k. HasReason after k) (sym (h.later one refl).1) tt

  keeps_over : (s : Shown) (kept : Option StopReason) → KeepsFirst kept after reason given → IsStopOver s kept → IsReasonOver s.shared reason
      → IsStopOver s after
  keeps_over s None h old new = subst (IsStopOver s) (sym (h.first refl).0) new
  keeps_over s (Some one) h old new = subst (IsStopOver s) (sym (h.later one refl).0) old

-- the reason is over the run's generators
reason_over : (n : ℕ) (s : Shown) (reason : StopReason) → IsReason n s reason → IsReasonOver s.shared reason
reason_over n s reasons.Pairs h = absurd h
reason_over n s reasons.Memory h = tt
reason_over n s (reasons.Degree t) h = h.pair

not_pairs : (n : ℕ) (s : Shown) (reason : StopReason) → IsReason n s reason → reason_of n reason ≡ plain.Pairs → ⊥
not_pairs n s reasons.Pairs h e = h
not_pairs n s reasons.Memory h e = cc
not_pairs n s (reasons.Degree t) h e = cc

-- the trail of a reason, or another one where it has none
abbrev way_of : {n : ℕ} → Trail n → plain.StopReason n → Trail n
way_of other plain.Pairs = other
way_of other plain.Memory = other
way_of other (plain.Degree way) = way

is_trail :
    (n : ℕ) (s : Shown) (reason : StopReason) → IsReason n s reason → (way : Trail n) → reason_of n reason ≡ plain.Degree way
    → IsHistoryTrail (run_of n s) (vectors (state_of n s).members) (state_of n s).history way
is_trail n s reasons.Pairs h way e = absurd h
is_trail n s reasons.Memory h way e = absurd cc
is_trail n s (reasons.Degree t) h way e = subst (IsHistoryTrail (run_of n s) (vectors (state_of n s).members) (state_of n s).history) (ap (way_of way) e) h.way

pub stop_step :
    (s : Shown) (w : ℕ) (reason : StopReason) (after given : Option StopReason) (es : List Event)
    → MayStop w s reason → KeepsFirst s.stop after reason given
    → Each (IsEventRead (length s.members) s.stop) s.history
    → es ≡ s.history ++ (Stop w given ∷ [])
    → steps.Stops (run_of (variables_of s) s) (state_of (variables_of s) s) w (reason_of (variables_of s) reason)
    (state_of (variables_of s) (after_stop s after es))
stop_step s w reason after given es may keeps read more = record {
  may = record {
    known = may.known;
    first = may.first;
    not_pairs = not_pairs n s reason may.why;
    trail = is_trail n s reason may.why;
  };
  after = λ i. record (state_of n s) { stop = keeps_stop n after reason given s.stop keeps i; history = history i };
}
  where
    n : ℕ
    n = variables_of s

    history : history_of n s.members after es ≡ history_of n s.members s.stop s.history ++ (plain.Stop w (reason_of n reason) ∷ [])
    history =
        ap (history_of n s.members after) more
        ∙ history_same_members n s.members s.stop after s.history (Stop w given) (keeps_stays n after reason given s.stop keeps) read
        ∙ ap (λ r. history_of n s.members s.stop s.history ++ (plain.Stop w r ∷ [])) (keeps_given n after reason given s.stop keeps)

-- what is kept of a state is kept
pub stop_kept :
    (i : Inside) (w : ℕ) (reason : StopReason) (after given : Option StopReason) (history : Vec Event Global)
    → IsCoherentState i → MayStop w (shown i) reason → KeepsFirst i.stop after reason given
    → history.items ≡ i.history.items ++ (Stop w given ∷ [])
    → vec_capacity history ≡ vec_capacity i.history
    → IsCoherentState (record i { stop = after; history = history })
stop_kept i w reason after given history kept may keeps items capacity =
    let s : Shown = shown i in
    let n : ℕ = variables_of s in
    let t : Shown = after_stop s after history.items in
    let step : steps.Stops (run_of n s) (state_of n s) w (reason_of n reason) (state_of n t) =
    stop_step s w reason after given history.items may keeps kept.read items in
    let fewer : suc (all_left (state_of n t) s.workers) ≤ all_left (state_of n s) s.workers =
    room_after_stop (run_of n s) (state_of n s) (state_of n t) w (reason_of n reason) step in
    let long : length history.items ≡ length s.history + 1 = ap length items ∙ length-append s.history (Stop w given ∷ []) in
    let many : ℕ = length s.members in
    record {
      some = kept.some;
      replays = replays_after s t (plain.Stop w (reason_of n reason)) (record { shared = refl; budget = refl; workers = refl; update = refl }) kept.replays step;
      leads = kept.leads;
      stop = keeps_over n after reason given t s.stop keeps kept.stop (reason_over n s reason may.why);
      read = subst (Each (IsEventRead many after)) (sym items)
          (read_more many many s.stop after s.history (Stop w given) (omega arith) (keeps_stays n after reason given s.stop keeps) kept.read
          (keeps_reason n after reason given s.stop keeps));
      room = omega (arith, long, fewer, kept.room, capacity);
    }
