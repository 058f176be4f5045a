-- Sums by row are read off as constants, row by row
use Rattle.std.specs.Prelude.{Contains}
use Rattle.std.proofs.Common.{List, [], ap, append-nil, arith, drop, get_or, get_or-set_other, inl, inr, length, refl, set, subst, suc, sym, zero, ℕ}
use Rattle.std.proofs.Common.{◌%◌, ◌*◌, ◌+◌, ◌++◌, ◌<◌, ◌∙◌, ◌∷◌, ◌≡◌, ◌≤◌, ◌⊎◌}
use Rattle.std.proofs.lemmas.List.{drop_all, drop_more}
use Rattle.std.proofs.lemmas.Bool.{cases_eq}
use Rattle.residues.proofs.Congruences.{IsCongruent_add, IsCongruent_mod, IsCongruent_multiply}
use Rattle.residues.proofs.Congruences.{IsCongruent_of, IsCongruent_refl, IsCongruent_sym, IsCongruent_trans}
use Rattle.residues.specs.Residues.{IsCongruent}
use Rattle.monomials.specs.Exponents.{unit}
use Rattle.formal_sums.proofs.Sameness.{IsSame_append, IsSame_of, IsSame_refl, IsSame_sym, IsSame_trans}
use Rattle.formal_sums.proofs.WeightedSums.{coefficient-append}
use Rattle.formal_sums.specs.FormalSums.{FormalSum, IsSame, Key, coefficient, indicator, weighted_sum}
use Rattle.constant_rows.specs.Rows.{AreZeros, row_constants}

-- a coefficient that is 0
pub nothing_put : {n : ℕ} (p : ℕ) (v : FormalSum n) (k : Key n) (r : ℕ) → r ≡ 0 → IsSame p v (v ++ (k, r) ∷ [])
nothing_put {n} p v k r z = record {
  by_key = λ l. IsCongruent_of p _ _ (sym (coefficient-append v ((k, r) ∷ []) l ∙ ap (λ x. coefficient v l + (x * indicator l k + 0)) z ∙ omega arith));
}

-- a sum is set to 0
weighted_sum-taken :
    {n : ℕ} (f : Key n → ℕ) (i c : ℕ) (sums : List ℕ)
    → weighted_sum f (row_constants n i (set sums c 0)) + get_or sums c 0 * f (i + c, unit n) ≡ weighted_sum f (row_constants n i sums)
weighted_sum-taken f i c [] = omega arith
weighted_sum-taken {n} f i zero (a ∷ sums) =
    let e : i + 0 ≡ i = omega arith in
    rw e (omega arith)
weighted_sum-taken {n} f i (suc c) (a ∷ sums) =
    let e : i + suc c ≡ (i + 1) + c = omega arith in
    let h = weighted_sum-taken f (i + 1) c sums in
    rw e (omega (arith, h))

module _ {n p : ℕ} (c r : ℕ) (sums : List ℕ) (is : r ≡ get_or sums c 0 % p) where
  -- the constant of row c, and the sums without it
  taken : IsSame p (row_constants n 0 sums) (row_constants n 0 (set sums c 0) ++ ((c, unit n), r) ∷ [])
  taken = record {
    by_key = λ k.
        let w = indicator k (c, unit n) in
        let a = get_or sums c 0 in
        let new = coefficient (row_constants n 0 (set sums c 0)) k in
        let old = coefficient (row_constants n 0 sums) k in
        let z : 0 + c ≡ c = omega arith in
        let h : new + a * w ≡ old = subst (λ m. new + a * indicator k (m, unit n) ≡ old) z (weighted_sum-taken (indicator k) 0 c sums) in
        let same : IsCongruent p a r = IsCongruent_sym (IsCongruent_trans (IsCongruent_of p _ _ is) (IsCongruent_mod p a)) in
        IsCongruent_trans (IsCongruent_of p old (new + a * w) (sym h))
        (IsCongruent_trans (IsCongruent_add (IsCongruent_refl p new) (IsCongruent_multiply same (IsCongruent_refl p w)))
        (IsCongruent_of p _ _ (sym (coefficient-append (row_constants n 0 (set sums c 0)) (((c, unit n), r) ∷ []) k ∙ omega arith))));
  }

  -- it stands behind those that were taken before
  pub taken_more :
      (start : List ℕ) (done new : FormalSum n) → IsSame p (row_constants n 0 start) (done ++ row_constants n 0 sums)
      → IsSame p new (done ++ ((c, unit n), r) ∷ [])
      → IsSame p (row_constants n 0 start) (new ++ row_constants n 0 (set sums c 0))
  taken_more start done new h stands = record {
    by_key = λ k.
        let S = row_constants n 0 sums in
        let S' = row_constants n 0 (set sums c 0) in
        let t : FormalSum n = ((c, unit n), r) ∷ [] in
        let d = coefficient done k in
        let s = coefficient S' k in
        let x = coefficient t k in
        IsCongruent_trans (h.by_key k)
        (IsCongruent_trans (IsCongruent_of p _ _ (coefficient-append done S k))
        (IsCongruent_trans (IsCongruent_add (IsCongruent_refl p d) (IsCongruent_trans (taken.by_key k) (IsCongruent_of p _ _ (coefficient-append S' t k))))
        (IsCongruent_trans (IsCongruent_of p (d + (s + x)) ((d + x) + s) (omega arith))
        (IsCongruent_trans
        (IsCongruent_add (IsCongruent_sym (IsCongruent_trans (stands.by_key k) (IsCongruent_of p _ _ (coefficient-append done t k)))) (IsCongruent_refl p s))
        (IsCongruent_of p _ _ (sym (coefficient-append new S' k)))))));
  }

-- ---- the rows that are left
abbrev AreLeft : List ℕ → List ℕ → Type 0
AreLeft touched sums = (i : ℕ) → (get_or sums i 0 ≡ 0) ⊎ Contains touched i

pub set_zero : (sums : List ℕ) (c : ℕ) → get_or (set sums c 0) c 0 ≡ 0
set_zero [] c = refl
set_zero (a ∷ sums) zero = refl
set_zero (a ∷ sums) (suc c) = set_zero sums c

-- what is not the first stands behind it
behind : (y : ℕ) (xs : List ℕ) (j : ℕ) → (j ≡ y → ⊥) → Contains (y ∷ xs) j → Contains xs j
behind y xs j ne (zero, lt, e) = absurd (ne (sym e))
behind y xs j ne (suc i, lt, e) = (i, omega (arith, lt), e)

pub left_less :
    (touched : List ℕ) (i : ℕ) (sums : List ℕ) → AreLeft (drop i touched) sums → i < length touched
    → AreLeft (drop (i + 1) touched) (set sums (get_or touched i 0) 0)
left_less touched i sums h lt j = go (cases_eq j (get_or touched i 0))
  where
    other : (j ≡ get_or touched i 0 → ⊥) → (get_or sums j 0 ≡ 0) ⊎ Contains (get_or touched i 0 ∷ drop (i + 1) touched) j
        → (get_or (set sums (get_or touched i 0) 0) j 0 ≡ 0) ⊎ Contains (drop (i + 1) touched) j
    other ne (inl z) = inl (get_or-set_other sums (get_or touched i 0) j 0 0 ne ∙ z)
    other ne (inr t) = inr (behind (get_or touched i 0) (drop (i + 1) touched) j ne t)

    go :
        (j ≡ get_or touched i 0) ⊎ (j ≡ get_or touched i 0 → ⊥)
        → (get_or (set sums (get_or touched i 0) 0) j 0 ≡ 0) ⊎ Contains (drop (i + 1) touched) j
    go (inl e) = inl (ap (λ x. get_or (set sums (get_or touched i 0) 0) x 0) e ∙ set_zero sums (get_or touched i 0))
    go (inr ne) = other ne (subst (λ xs. AreLeft xs sums) (drop_more touched i 0 lt) h j)

pub none_left : (touched : List ℕ) (i : ℕ) (sums : List ℕ) → AreLeft (drop i touched) sums → length touched ≤ i → AreZeros sums
none_left touched i sums h le = all sums (λ j. none j (subst (λ xs. AreLeft xs sums) (drop_all i touched le) h j))
  where
    none : (j : ℕ) → (get_or sums j 0 ≡ 0) ⊎ Contains {X = ℕ} [] j → get_or sums j 0 ≡ 0
    none j (inl z) = z
    none j (inr (i', lt', e)) = absurd (omega (arith, lt'))

    all : (xs : List ℕ) → ((j : ℕ) → get_or xs j 0 ≡ 0) → AreZeros xs
    all [] g = tt
    all (x ∷ xs) g = (g 0, all xs (λ j. g (suc j)))

-- sums that are all 0
pub zeros_same : {n : ℕ} (p i : ℕ) (sums : List ℕ) → AreZeros sums → IsSame p (row_constants n i sums) []
zeros_same p i [] h = IsSame_refl p []
zeros_same {n} p i (a ∷ sums) h = record {
  by_key = λ k. IsCongruent_trans
      (IsCongruent_add (IsCongruent_of p (a * indicator k (i, unit n)) (0 * indicator k (i, unit n)) (ap (λ x. x * indicator k (i, unit n)) h.0))
      ((zeros_same p (i + 1) sums h.1).by_key k))
      (IsCongruent_of p (0 * indicator k (i, unit n) + 0) 0 (omega arith));
}

pub all_taken :
    {n p : ℕ} (start sums : List ℕ) (done : FormalSum n) → AreZeros sums → IsSame p (row_constants n 0 start) (done ++ row_constants n 0 sums)
    → IsSame p done (row_constants n 0 start)
all_taken {n} {p} start sums done z h =
    IsSame_sym (IsSame_trans h (IsSame_trans (IsSame_append (IsSame_refl p done) (zeros_same p 0 sums z)) (IsSame_of p _ _ (append-nil done))))
