-- Multiples of forms, added one place after another
use Rattle.std.proofs.Common.{List, ap₂, arith, inl, inr, subst, sym, ℕ, ◌*◌, ◌+◌, ◌<◌, ◌∙◌, ◌≡◌, ◌≤◌, ◌⊎◌}
use Rattle.std.proofs.lemmas.Bool.{cases_lt}
use Rattle.std.specs.Prelude.{slice_index}
use Rattle.residues.proofs.Congruences.{IsCongruent_of, IsCongruent_trans}
use Rattle.residues.specs.Residues.{IsCongruent}

-- where the form is 0 nothing is added
pub nothing_added :
    (p c : ℕ) (form old : List ℕ) (j : ℕ) → slice_index form j ≡ 0
    → IsCongruent p (slice_index old j) (slice_index old j + c * slice_index form j)
nothing_added p c form old j none = IsCongruent_of p (slice_index old j) (slice_index old j + c * slice_index form j) (rw none (omega arith))

-- the places are those of `now`, but for k, which has the sum
module _ (now new : List ℕ) (k sum : ℕ) (at : slice_index new k ≡ sum) (others : (j : ℕ) → (j ≡ k → ⊥) → slice_index new j ≡ slice_index now j) where
  pub all_below : (bound : ℕ) → sum < bound → ((j : ℕ) → slice_index now j < bound) → (j : ℕ) → slice_index new j < bound
  all_below bound small below j = go (cases_lt j k) (cases_lt k j)
    where
      go : (j < k) ⊎ (k ≤ j) → (k < j) ⊎ (j ≤ k) → slice_index new j < bound
      go (inl l) m = subst (λ z. z < bound) (sym (others j (λ e. omega (arith, l, e)))) (below j)
      go (inr g) (inl m) = subst (λ z. z < bound) (sym (others j (λ e. omega (arith, m, e)))) (below j)
      go (inr g) (inr m) =
          let q : k ≡ j = omega (arith, g, m) in
          subst (λ z. slice_index new z < bound) q (subst (λ z. z < bound) (sym at) small)

  pub left_behind : (old : List ℕ) → ((j : ℕ) → k ≤ j → slice_index now j ≡ slice_index old j) → (j : ℕ) → k + 1 ≤ j → slice_index new j ≡ slice_index old j
  left_behind old rest j le = others j (λ e. omega (arith, le, e)) ∙ rest j (omega (arith, le))

  pub one_more_sum :
      (p c a f : ℕ) (form old : List ℕ) → a ≡ slice_index now k → f ≡ slice_index form k → IsCongruent p sum (a + c * f)
      → ((j : ℕ) → j < k → IsCongruent p (slice_index now j) (slice_index old j + c * slice_index form j))
      → ((j : ℕ) → k ≤ j → slice_index now j ≡ slice_index old j)
      → (j : ℕ) → j < k + 1 → IsCongruent p (slice_index new j) (slice_index old j + c * slice_index form j)
  one_more_sum p c a f form old read factor is sums rest j lt = go (cases_lt j k)
    where
      go : (j < k) ⊎ (k ≤ j) → IsCongruent p (slice_index new j) (slice_index old j + c * slice_index form j)
      go (inl l) = IsCongruent_trans (IsCongruent_of p (slice_index new j) (slice_index now j) (others j (λ e. omega (arith, l, e)))) (sums j l)
      go (inr g) =
          let q : k ≡ j = omega (arith, lt, g) in
          subst (λ z. IsCongruent p (slice_index new z) (slice_index old z + c * slice_index form z)) q
          (IsCongruent_trans (IsCongruent_of p (slice_index new k) sum at)
          (IsCongruent_trans is (IsCongruent_of p (a + c * f) (slice_index old k + c * slice_index form k)
          (ap₂ (λ x y. x + c * y) (read ∙ rest k (omega arith)) factor))))

-- the sums at all places, where the form is 0 at those that are left
pub all_sums :
    (p c : ℕ) (form old now : List ℕ) (k high : ℕ) → high ≤ k
    → ((j : ℕ) → j < k → IsCongruent p (slice_index now j) (slice_index old j + c * slice_index form j))
    → ((j : ℕ) → k ≤ j → slice_index now j ≡ slice_index old j)
    → ((j : ℕ) → high ≤ j → slice_index form j ≡ 0)
    → (j : ℕ) → IsCongruent p (slice_index now j) (slice_index old j + c * slice_index form j)
all_sums p c form old now k high le sums rest none j = go (cases_lt j k)
  where
    go : (j < k) ⊎ (k ≤ j) → IsCongruent p (slice_index now j) (slice_index old j + c * slice_index form j)
    go (inl l) = sums j l
    go (inr g) =
        IsCongruent_trans (IsCongruent_of p (slice_index now j) (slice_index old j) (rest j g))
        (nothing_added p c form old j (none j (omega (arith, le, g))))
