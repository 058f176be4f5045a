-- Jobs that are out, and histories that grow
use Rattle.std.proofs.Common.{Bool, List, [], ap, arith, inl, inr, cond, eq-eqb, false, filter, get_or, length, length-append, map, nat_eq, not, refl, true, ℕ, ◌++◌, ◌<◌, ◌==◌, ◌∙◌, ◌∷◌, ◌≡◌}
use Rattle.basis_steps.specs.Pairs.{Pair}
use Rattle.basis_steps.specs.Histories.{HasStopped, took_since}
use Rattle.basis_steps.specs.States.{End, Event, Member, Put, Stop, Take, job_of, with_others}
use Rattle.basis_steps.specs.Steps.{out_with}
use Rattle.basis_steps.specs.Trails.{HasGiven}

pub job_of-append : (w : ℕ) (xs ys : List (Pair × ℕ)) → job_of w (xs ++ ys) ≡ job_of w xs ++ job_of w ys
job_of-append w [] ys = refl
job_of-append w (e ∷ xs) ys = go (e.1 == w) (job_of-append w xs ys)
  where
    go : (b : Bool) → job_of w (xs ++ ys) ≡ job_of w xs ++ job_of w ys
        → map (λ e. e.0) (cond b (e ∷ filter (λ e. e.1 == w) (xs ++ ys)) (filter (λ e. e.1 == w) (xs ++ ys))) ≡ map (λ e. e.0) (cond b (e ∷ filter (λ e. e.1 == w) xs) (filter (λ e. e.1 == w) xs)) ++ job_of w ys
    go true h = ap (λ z. e.0 ∷ z) h
    go false h = h

pub job_of_out_with : (w : ℕ) (xs : List Pair) → job_of w (out_with w xs) ≡ xs
job_of_out_with w [] = refl
job_of_out_with w (x ∷ xs) = go (w == w) (eq-eqb w w refl) (job_of_out_with w xs)
  where
    go : (b : Bool) → b ≡ true → job_of w (out_with w xs) ≡ xs
        → map (λ e. e.0) (cond b ((x, w) ∷ filter (λ e. e.1 == w) (out_with w xs)) (filter (λ e. e.1 == w) (out_with w xs))) ≡ x ∷ xs
    go true e h = ap (λ z. x ∷ z) h
    go false e h = absurd cc

-- what is out with others is not out with the worker
pub job_of_with_others : (w : ℕ) (out : List (Pair × ℕ)) → job_of w (with_others w out) ≡ []
job_of_with_others w [] = refl
job_of_with_others w (e ∷ out) = go (e.1 == w) refl (job_of_with_others w out)
  where
    go : (b : Bool) → (e.1 == w) ≡ b → job_of w (with_others w out) ≡ [] → job_of w (cond (not b) (e ∷ with_others w out) (with_others w out)) ≡ []
    go true q h = h
    go false q h = ap (λ c. map (λ e. e.0) (cond c (e ∷ filter (λ e. e.1 == w) (with_others w out)) (filter (λ e. e.1 == w) (with_others w out)))) q ∙ h

module _ {n : ℕ} where
  -- the last Take gave its job
  pub given_last : (es : List (Event n)) (w : ℕ) (skipped job : List Pair) → HasGiven (es ++ (Take w skipped job ∷ [])) job
  given_last es w skipped job = record { worker = w; skipped = skipped; there = (length es, omega (arith, length-append es (Take w skipped job ∷ [])), at es) }
    where
      at : (es : List (Event n)) → get_or (es ++ (Take w skipped job ∷ [])) (length es) (Take w skipped job) ≡ Take w skipped job
      at [] = refl
      at (e ∷ es) = at es

  -- a Take and a Put are no Stop
  pub unstopped_take : (w v : ℕ) (skipped job : List Pair) (es : List (Event n)) → (HasStopped w es → ⊥) → HasStopped w (es ++ (Take v skipped job ∷ [])) → ⊥
  unstopped_take w v skipped job [] h s = s
  unstopped_take w v skipped job (Take u xs ys ∷ es) h s = unstopped_take w v skipped job es h s
  unstopped_take w v skipped job (Put u made ∷ es) h s = unstopped_take w v skipped job es h s
  unstopped_take w v skipped job (End u ending ∷ es) h s = unstopped_take w v skipped job es h s
  unstopped_take w v skipped job (Stop u reason ∷ es) h s = elim s [
    | inl e ↦ h (inl e)
    | inr later ↦ unstopped_take w v skipped job es (λ x. h (inr x)) later
  ]

  pub unstopped_put : (w v : ℕ) (made : List (Member n)) (es : List (Event n)) → (HasStopped w es → ⊥) → HasStopped w (es ++ (Put v made ∷ [])) → ⊥
  unstopped_put w v made [] h s = s
  unstopped_put w v made (Take u xs ys ∷ es) h s = unstopped_put w v made es h s
  unstopped_put w v made (Put u others ∷ es) h s = unstopped_put w v made es h s
  unstopped_put w v made (End u ending ∷ es) h s = unstopped_put w v made es h s
  unstopped_put w v made (Stop u reason ∷ es) h s = elim s [
    | inl e ↦ h (inl e)
    | inr later ↦ unstopped_put w v made es (λ x. h (inr x)) later
  ]

  -- who takes has taken since its last End
  pub took_now : (w : ℕ) (skipped job : List Pair) (es : List (Event n)) (took : Bool) → took_since w (es ++ (Take w skipped job ∷ [])) took ≡ true
  took_now w skipped job [] took = ap (λ b. cond b true took) (eq-eqb w w refl)
  took_now w skipped job (Take u xs ys ∷ es) took = took_now w skipped job es (cond (nat_eq u w) true took)
  took_now w skipped job (Put u made ∷ es) took = took_now w skipped job es took
  took_now w skipped job (End u ending ∷ es) took = took_now w skipped job es (cond (nat_eq u w) false took)
  took_now w skipped job (Stop u reason ∷ es) took = took_now w skipped job es took
