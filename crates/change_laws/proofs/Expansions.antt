-- Combinations of monomials
use Rattle.std.proofs.Common.{List, [], ap, ap₂, arith, cond, get_or, inl, inr, length, refl, subst, suc, sym, zero, ℕ, ◌*◌, ◌++◌, ◌+◌, ◌<◌, ◌∙◌, ◌∷◌, ◌≡◌, ◌≤◌, ◌⊎◌}
use Rattle.residues.proofs.Congruences.{IsCongruent_add, IsCongruent_multiply, IsCongruent_of, IsCongruent_refl, IsCongruent_sym, IsCongruent_trans}
use Rattle.residues.specs.Residues.{IsCongruent}
use Rattle.monomials.proofs.Monomials.{times-unit}
use Rattle.monomials.specs.Exponents.{Exponents, times, unit}
use Rattle.formal_sums.proofs.Sameness.{IsSame_append, IsSame_of, IsSame_refl, IsSame_sym, IsSame_trans, coefficient-scale_unit}
use Rattle.formal_sums.proofs.WeightedSums.{coefficient-append, indicator_other, indicator_same, key_cases}
use Rattle.formal_sums.specs.FormalSums.{FormalSum, IsSame, Key, coefficient, indicator, scale}
use Rattle.change_laws.specs.Combinations.{expansion}
use Rattle.change_laws.specs.Standard.{AreDistinct, Has}

-- the combination by f plus c times that by g
pub expansion_linear :
    {n p : ℕ} (c : ℕ) (B : List (Exponents n)) (f g h : ℕ → ℕ)
    → ((k : ℕ) → k < length B → IsCongruent p (h k) (f k + c * g k))
    → IsSame p (expansion B h) (expansion B f ++ scale c (unit n) (expansion B g))
expansion_linear {n} {p} c B f g h e = record { by_key = λ k. IsCongruent_trans (go B f g h e k) (IsCongruent_of p _ _ (sym (coefficient-append (expansion B f) (scale c (unit n) (expansion B g)) k ∙ ap (λ q. coefficient (expansion B f) k + q) (coefficient-scale_unit c (expansion B g) k)))) }
  where
    go :
        (B : List (Exponents n)) (f g h : ℕ → ℕ)
        → ((k : ℕ) → k < length B → IsCongruent p (h k) (f k + c * g k))
        → (k : Key n) → IsCongruent p (coefficient (expansion B h) k) (coefficient (expansion B f) k + c * coefficient (expansion B g) k)
    go [] f g h e k = IsCongruent_of p 0 (0 + c * 0) (omega arith)
    go (b ∷ B) f g h e k =
        let i = indicator k (0, b) in
        let x = coefficient (expansion B (λ j. f (suc j))) k in
        let y = coefficient (expansion B (λ j. g (suc j))) k in
        let a = f 0 in
        let d = g 0 in
        IsCongruent_trans (IsCongruent_add (IsCongruent_multiply (e 0 (omega arith)) (IsCongruent_refl p i)) (go B (λ j. f (suc j)) (λ j. g (suc j)) (λ j. h (suc j)) (λ j lt. e (suc j) (omega arith)) k))
        (IsCongruent_of p ((a + c * d) * i + (x + c * y)) (a * i + x + c * (d * i + y)) (omega arith))

-- the combination depends on the residues alone
pub expansion_same :
    {n p : ℕ} (B : List (Exponents n)) (f g : ℕ → ℕ) → ((k : ℕ) → k < length B → IsCongruent p (f k) (g k))
    → IsSame p (expansion B f) (expansion B g)
expansion_same [] f g e = IsSame_refl _ []
expansion_same {n} {p} (b ∷ B) f g e = record {
  by_key = λ k. IsCongruent_add (IsCongruent_multiply (e 0 (omega arith)) (IsCongruent_refl p (indicator k (0, b)))) ((expansion_same B (λ j. f (suc j)) (λ j. g (suc j)) (λ j lt. e (suc j) (omega arith))).by_key k);
}

-- one more monomial
pub expansion_push :
    {n : ℕ} (B : List (Exponents n)) (b : Exponents n) (f : ℕ → ℕ)
    → expansion (B ++ b ∷ []) f ≡ expansion B f ++ ((0, b), f (length B)) ∷ []
expansion_push [] b f = refl
expansion_push (a ∷ B) b f = ap (λ v. ((0, a), f 0) ∷ v) (expansion_push B b (λ k. f (suc k)))

-- by zeros
pub expansion_zero :
    {n p : ℕ} (B : List (Exponents n)) (f : ℕ → ℕ) → ((k : ℕ) → k < length B → IsCongruent p (f k) 0) → IsSame p (expansion B f) []
expansion_zero [] f e = IsSame_refl _ []
expansion_zero {n} {p} (b ∷ B) f e = record {
  by_key = λ k. IsCongruent_trans (IsCongruent_add (IsCongruent_multiply (e 0 (omega arith)) (IsCongruent_refl p (indicator k (0, b)))) ((expansion_zero B (λ j. f (suc j)) (λ j lt. e (suc j) (omega arith))).by_key k))
      (IsCongruent_of p (0 * indicator k (0, b) + 0) 0 (omega arith));
}

-- 1 at one place
pub expansion_one :
    {n p : ℕ} (B : List (Exponents n)) (f : ℕ → ℕ) (j : ℕ) → j < length B → IsCongruent p (f j) 1
    → ((k : ℕ) → k < length B → (k ≡ j → ⊥) → IsCongruent p (f k) 0)
    → IsSame p (expansion B f) (((0, get_or B j (unit n)), 1) ∷ [])
expansion_one [] f j lt one others = absurd (omega arith)
expansion_one {n} {p} (b ∷ B) f zero lt one others = record {
  by_key = λ k. IsCongruent_add (IsCongruent_multiply one (IsCongruent_refl p (indicator k (0, b)))) ((expansion_zero B (λ j. f (suc j)) (λ j l. others (suc j) (omega arith) (λ e. omega arith))).by_key k);
}
expansion_one {n} {p} (b ∷ B) f (suc j) lt one others = record {
  by_key = λ k.
      let h = expansion_one B (λ i. f (suc i)) j (omega arith) one (λ i l ne. others (suc i) (omega arith) (λ e. ne (omega arith))) in
      let i = indicator k (0, b) in
      let y = coefficient (((0, get_or B j (unit n)), 1) ∷ []) k in
      IsCongruent_trans (IsCongruent_add (IsCongruent_multiply (others 0 (omega arith) (λ e. omega arith)) (IsCongruent_refl p i)) (h.by_key k))
      (IsCongruent_of p (0 * i + y) y (omega arith));
}

-- the coefficient at a key: 0, but at the monomials
pub expansion_keys :
    {n : ℕ} (B : List (Exponents n)) (f : ℕ → ℕ) (k : Key n)
    → (coefficient (expansion B f) k ≡ 0) ⊎ ((k.0 ≡ 0) × Has B k.1)
expansion_keys [] f k = inl refl
expansion_keys {n} (b ∷ B) f k = go (key_cases k (0, b)) (expansion_keys B (λ j. f (suc j)) k)
  where
    go :
        (k ≡ (0, b)) ⊎ (k ≡ (0, b) → ⊥) → (coefficient (expansion B (λ j. f (suc j))) k ≡ 0) ⊎ ((k.0 ≡ 0) × Has B k.1)
        → (coefficient (expansion (b ∷ B) f) k ≡ 0) ⊎ ((k.0 ≡ 0) × Has (b ∷ B) k.1)
    go (inl e) h = inr (ap (λ x. x.0) e, (0, omega arith, sym (ap (λ x. x.1) e)))
    go (inr ne) (inl z) = let i = indicator_other k (0, b) ne in inl (rw (i, z) (omega arith))
    go (inr ne) (inr (z, (j, lt, e))) = inr (z, (suc j, omega arith, e))

-- and there the residue
pub expansion_at :
    {n : ℕ} (B : List (Exponents n)) (f : ℕ → ℕ) → AreDistinct B → (j : ℕ) → j < length B
    → coefficient (expansion B f) (0, get_or B j (unit n)) ≡ f j
expansion_at [] f apart j lt = absurd (omega arith)
expansion_at {n} (b ∷ B) f apart zero lt = go (expansion_keys B (λ j. f (suc j)) (0, b))
  where
    go : (coefficient (expansion B (λ j. f (suc j))) (0, b) ≡ 0) ⊎ (◌≡◌ {A = ℕ} 0 0 × Has B b) → coefficient (expansion (b ∷ B) f) (0, b) ≡ f 0
    go (inl z) = let i = indicator_same (0, b) (0, b) refl in rw (i, z) (omega arith)
    go (inr (q, (j, l, e))) = absurd (apart 0 (suc j) (omega arith) (omega arith) (sym e))
expansion_at {n} (b ∷ B) f apart (suc j) lt =
    let ih = expansion_at B (λ i. f (suc i)) (λ x y xy l e. apart (suc x) (suc y) (omega arith) (omega arith) e) j (omega arith) in
    let ne : (0, get_or B j (unit n)) ≡ (0, b) → ⊥ = λ e. apart 0 (suc j) (omega arith) (omega arith) (sym (ap (λ x. x.1) e)) in
    let i = indicator_other (0, get_or B j (unit n)) (0, b) ne in
    rw (i, ih) (omega arith)
