-- A state after an End
use Rattle.std.proofs.Common.{Bool, Global, List, Vec, [], ap, arith, cond, false, get_or, length, length-append, refl, slice_set, subst, suc, sym}
use Rattle.std.proofs.Common.{true, vec_capacity, zero, ℕ, ◌++◌, ◌+◌, ◌<◌, ◌∙◌, ◌∷◌, ◌≡◌, ◌≤◌}
use Rattle.pair_criteria.specs.declared.pair.Pair.{Pair as CodePair}
use Rattle.formal_sums.specs.FormalSums.{Each}
use Rattle.basis_steps.specs.States as plain
use Rattle.basis_steps.specs.Steps as steps
use Rattle.basis_core.specs.declared.ending.Ending.{Ending}
use Rattle.basis_core.specs.declared.ending.Ending.TheVariants.{Ended, MoreWork}
use Rattle.basis_core.specs.declared.event.Event.{Event}
use Rattle.basis_core.specs.declared.event.Event.TheVariants.{End}
use Rattle.basis_core.specs.declared.state.BasisState.TheInside.{Inside}
use Rattle.basis_core.specs.Inside.{IsCoherentState, IsEventRead, all_left, shown}
use Rattle.basis_core.specs.Jobs.{pairs_of}
use Rattle.basis_core.specs.Shown.{Shown}
use Rattle.basis_core.specs.Stops.{stop_of}
use Rattle.basis_core.specs.Views.{ending_of, history_of, run_of, state_of, variables_of}
use Rattle.basis_core.proofs.Growing.{history_same_members, read_more, stays}
use Rattle.basis_core.proofs.Replaying.{replays_after}
use Rattle.basis_core.proofs.Room.{room_after_end}

-- worker w may end
abbrev pub MayEnd : ℕ → Shown → Type 0
MayEnd w s = steps.MayEnd (run_of (variables_of s) s) (state_of (variables_of s) s) w

-- the state after an End
abbrev pub after_end : Shown → List Bool → List Event → Shown
after_end s ended es = record s { ended = ended; history = es }

-- worker w ends with this answer, and then these have ended
pub record IsEnd (w : ℕ) (s : Shown) (e : Ending) (ended : List Bool) : Type 0 where
  pub may : MayEnd w s
  pub answers : ending_of e ≡ steps.end_answer_of (state_of (variables_of s) s)
  pub marks : e ≡ Ended → ended ≡ slice_set s.ended w true
  pub leaves : e ≡ MoreWork → ended ≡ s.ended

-- who has not ended has a flag
pub works_within : (es : List Bool) (w : ℕ) → get_or es w true ≡ false → w < length es
works_within [] w h = absurd cc
works_within (e ∷ es) zero h = omega arith
works_within (e ∷ es) (suc w) h = let rest : w < length es = works_within es w h in omega arith

-- the answer by the queue's items
pub end_answer :
    (n : ℕ) (s : Shown) (e : Ending) (queue : List CodePair) → pairs_of queue ≡ s.queue
    → ending_of e ≡ cond (steps.is_stopped (stop_of n s.stop)) plain.Ended (cond (steps.is_empty (pairs_of queue)) plain.Ended plain.MoreWork)
    → ending_of e ≡ steps.end_answer_of (state_of n s)
end_answer n s e queue q h = h ∙ ap (λ xs. cond (steps.is_stopped (stop_of n s.stop)) plain.Ended (cond (steps.is_empty xs) plain.Ended plain.MoreWork)) q

pub end_step :
    (s : Shown) (w : ℕ) (e : Ending) (ended : List Bool) (es : List Event)
    → IsEnd w s e ended → Each (IsEventRead (length s.members) s.stop) s.history
    → es ≡ s.history ++ (End w e ∷ [])
    → steps.Ends (run_of (variables_of s) s) (state_of (variables_of s) s) w (ending_of e) (state_of (variables_of s) (after_end s ended es))
end_step s w e ended es end read more = record {
  may = end.may;
  answers = end.answers;
  after = λ i. record (state_of n s) { ended = who e end.marks end.leaves i; history = history i };
}
  where
    n : ℕ
    n = variables_of s

    who : (a : Ending) → (a ≡ Ended → ended ≡ slice_set s.ended w true) → (a ≡ MoreWork → ended ≡ s.ended)
        → ended ≡ steps.ended_after (state_of n s) w (ending_of a)
    who Ended marks leaves = marks refl
    who MoreWork marks leaves = leaves refl

    history : history_of n s.members s.stop es ≡ history_of n s.members s.stop s.history ++ (plain.End w (ending_of e) ∷ [])
    history = ap (history_of n s.members s.stop) more ∙ history_same_members n s.members s.stop s.stop s.history (End w e) (stays s.stop s.stop refl) read

-- what is kept of a state is kept
pub end_kept :
    (i : Inside) (w : ℕ) (e : Ending) (ended : Vec Bool Global) (history : Vec Event Global)
    → IsCoherentState i → IsEnd w (shown i) e ended.items
    → history.items ≡ i.history.items ++ (End w e ∷ [])
    → vec_capacity history ≡ vec_capacity i.history
    → IsCoherentState (record i { ended = ended; history = history })
end_kept i w e ended history kept end items capacity =
    let s : Shown = shown i in
    let n : ℕ = variables_of s in
    let t : Shown = after_end s ended.items history.items in
    let step : steps.Ends (run_of n s) (state_of n s) w (ending_of e) (state_of n t) = end_step s w e ended.items history.items end kept.read items in
    let fewer : suc (all_left (state_of n t) s.workers) ≤ all_left (state_of n s) s.workers =
    room_after_end (run_of n s) (state_of n s) (state_of n t) w (ending_of e) step in
    let long : length history.items ≡ length s.history + 1 = ap length items ∙ length-append s.history (End w e ∷ []) in
    let many : ℕ = length s.members in
    record {
      some = kept.some;
      replays = replays_after s t (plain.End w (ending_of e)) (record { shared = refl; budget = refl; workers = refl; update = refl }) kept.replays step;
      leads = kept.leads;
      stop = kept.stop;
      read = subst (Each (IsEventRead many s.stop)) (sym items)
          (read_more many many s.stop s.stop s.history (End w e) (omega arith) (stays s.stop s.stop refl) kept.read tt);
      room = omega (arith, long, fewer, kept.room, capacity);
    }
