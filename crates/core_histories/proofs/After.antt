-- What waits after an event
use Rattle.std.proofs.Common.{Bool, List, None, Option, Some, [], suc, zero, ◌++◌, ◌∷◌, ap, eqb-true, false, get_or, refl, subst, sym, true, ℕ, ◌==◌, ◌∙◌, ◌≡◌}
use Rattle.std.proofs.lemmas.Bool.{eqb-false}
use Rattle.basis_core.specs.Outcomes.{OutcomeShown}
use Rattle.basis_core.specs.Pending.{MayPutOutcome}
use Rattle.basis_core.specs.Shown.{Shown}
use Rattle.core_histories.specs.Waiting.{AreWaiting}

none_some : (o : OutcomeShown) {A : Type 0} → None ≡ Some o → A
none_some o e = absurd cc

-- the places of all but one worker are as before, and what waited there may still be handed in; its own place is empty
pub waits_on :
    (s t : Shown) (w : ℕ) (old new : List (Option OutcomeShown)) → AreWaiting s old
    → ((o : OutcomeShown) → (w ≡ o.job.worker → ⊥) → MayPutOutcome s o → MayPutOutcome t o)
    → ((v : ℕ) → (v ≡ w → ⊥) → get_or new v None ≡ get_or old v None)
    → get_or new w None ≡ None → AreWaiting t new
waits_on s t w old new waiting stays others here v o e = go (v == w) refl
  where
    go : (b : Bool) → (v == w) ≡ b → (o.job.worker ≡ v) × MayPutOutcome t o
    go true q = none_some o (sym here ∙ ap (λ k. get_or new k None) (sym (eqb-true v w q)) ∙ e)
    go false q =
        let apart : v ≡ w → ⊥ = eqb-false v w q in
        let old_one = waiting v o (sym (others v apart) ∙ e) in
        (old_one.0, stays o (λ k. apart (sym old_one.0 ∙ sym k)) old_one.1)

-- and one more outcome is put aside
pub waits_too :
    (t : Shown) (w : ℕ) (old new : List (Option OutcomeShown)) (one : OutcomeShown) → AreWaiting t old
    → one.job.worker ≡ w → MayPutOutcome t one
    → ((o : OutcomeShown) → get_or new w None ≡ Some o → o ≡ one)
    → ((v : ℕ) → (v ≡ w → ⊥) → get_or new v None ≡ get_or old v None)
    → AreWaiting t new
waits_too t w old new one waiting mine may here others v o e = go (v == w) refl
  where
    go : (b : Bool) → (v == w) ≡ b → (o.job.worker ≡ v) × MayPutOutcome t o
    go true q =
        let same : o ≡ one = here o (ap (λ k. get_or new k None) (sym (eqb-true v w q)) ∙ e) in
        (ap (λ x. x.job.worker) same ∙ mine ∙ sym (eqb-true v w q), subst (MayPutOutcome t) (sym same) may)
    go false q = waiting v o (sym (others v (eqb-false v w q)) ∙ e)

-- the same state
pub same_state : (s : Shown) (w : ℕ) (o : OutcomeShown) → (w ≡ o.job.worker → ⊥) → MayPutOutcome s o → MayPutOutcome s o
same_state s w o apart may = may

-- one more empty place
pub none_more : (xs : List (Option OutcomeShown)) → ((w : ℕ) → get_or xs w None ≡ None) → (w : ℕ) → get_or (xs ++ (None ∷ [])) w None ≡ None
none_more [] h zero = refl
none_more [] h (suc w) = refl
none_more (x ∷ xs) h zero = h 0
none_more (x ∷ xs) h (suc w) = none_more xs (λ v. h (suc v)) w
