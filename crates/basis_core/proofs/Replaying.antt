-- A state replays its history after one more event too, and so holds the invariant of a run
use Rattle.std.proofs.Common.{List, [], ap, inl, inr, length, length-set, refl, subst, suc, sym, true, zero, ℕ, ◌<◌, ◌∙◌, ◌∷◌, ◌≡◌}
use Rattle.residues.specs.Residues.{IsDomain}
use Rattle.monomial_orders.specs.Laws.{key_comparison_order}
use Rattle.term_lists.specs.Rings.{variables}
use Rattle.term_lists.specs.Vectors.{sums_of}
use Rattle.basis_steps.proofs.Starting.{kept_replays, replays_more}
use Rattle.basis_steps.specs.Invariant.{HoldsInvariant}
use Rattle.basis_steps.specs.States.{End, Ended, Event, IsLawfulRun, MoreWork, Put, Run, State, Stop, Take}
use Rattle.basis_steps.specs.Steps.{Reaches, Replays, Step, none_ended}
use Rattle.basis_core.specs.Members.{setting_of}
use Rattle.basis_core.specs.Shown.{Shown}
use Rattle.basis_core.specs.Views.{IsSameRun, run_of, state_of, variables_of}

-- the run has a worker, and its ring's modulus a domain
pub lawful_run : (n : ℕ) (s : Shown) → IsDomain s.shared.ring.modulus.value → 0 < s.workers → IsLawfulRun (run_of n s)
lawful_run n s domain some = record {
  setting = record { domain = domain; order = key_comparison_order s.shared.ring.module_order s.shared.ring.order s.shared.ring.weights n s.shared.rank };
  some = some;
}

-- what replays its history holds the invariant
pub replayed_holds :
    (n : ℕ) (s : Shown) → IsDomain s.shared.ring.modulus.value → 0 < s.workers
    → Replays (run_of n s) (state_of n s) → HoldsInvariant (run_of n s) (state_of n s)
replayed_holds n s domain some h = kept_replays (run_of n s) (lawful_run n s domain some) (state_of n s) h

same_run : (n : ℕ) (s t : Shown) → IsSameRun s t → run_of n t ≡ run_of n s
same_run n s t same = λ i. record {
  setting = setting_of n (same.shared i);
  generators = sums_of n (same.shared i).generators;
  budget = same.budget i;
  workers = same.workers i;
  degree_limit = 65535;
  update = same.update i;
}

-- one more event of the same run
pub replays_after :
    (s t : Shown) (e : Event (variables_of s)) → IsSameRun s t
    → Replays (run_of (variables_of s) s) (state_of (variables_of s) s)
    → Step (run_of (variables_of s) s) (state_of (variables_of s) s) e (state_of (variables_of s) t)
    → Replays (run_of (variables_of t) t) (state_of (variables_of t) t)
replays_after s t e same h step =
    let n : ℕ = variables_of s in
    let there : Replays (run_of n s) (state_of n t) = replays_more (run_of n s) (state_of n s) (state_of n t) e h step in
    let here : Replays (run_of n t) (state_of n t) = subst (λ r. Replays r (state_of n t)) (sym (same_run n s t same)) there in
    subst (λ m. Replays (run_of m t) (state_of m t)) (sym (ap (λ shared. variables shared.ring) same.shared)) here

none_length : (k : ℕ) → length (none_ended k) ≡ k
none_length zero = refl
none_length (suc k) = ap suc (none_length k)

module _ {n : ℕ} (r : Run n) where
  step_length : (s t : State n) (e : Event n) → Step r s e t → length t.ended ≡ length s.ended
  step_length s t (Take w skipped job) (most, may, inl f) = ap (λ u. length u.ended) f.after
  step_length s t (Take w skipped job) (most, may, inr (left, h)) = ap (λ u. length u.ended) h.after
  step_length s t (Put w made) (base, rows, products, h) = ap (λ u. length u.ended) h.after
  step_length s t (End w Ended) h = ap (λ u. length u.ended) h.after ∙ length-set s.ended w true
  step_length s t (End w MoreWork) h = ap (λ u. length u.ended) h.after
  step_length s t (Stop w reason) h = ap (λ u. length u.ended) h.after

  runs_length : (s t : State n) (es : List (Event n)) → Reaches r s es t → length t.ended ≡ length s.ended
  runs_length s t [] h = ap (λ u. length u.ended) h
  runs_length s t (e ∷ es) (mid, step, rest) = runs_length mid t es rest ∙ step_length s mid e step

  -- each worker has a flag
  pub ended_length : (s : State n) → Replays r s → length s.ended ≡ r.workers
  ended_length s (first, begins, runs) = runs_length first s s.history runs ∙ ap length begins.ended ∙ none_length r.workers
