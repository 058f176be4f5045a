-- Coefficients of short lists of terms
use Rattle.std.proofs.Common.{List, [], ap, arith, get_or, inl, inr, length, subst, suc, sym, zero, ℕ, ◌*◌, ◌+◌, ◌-◌, ◌<◌, ◌∷◌, ◌≡◌, ◌≤◌, ◌⊎◌}
use Rattle.residues.proofs.Congruences.{IsCongruent_minus, IsCongruent_of, IsCongruent_trans}
use Rattle.monomials.specs.Exponents.{Exponents, cons, head, nil, tail}
use Rattle.formal_sums.proofs.WeightedSums.{indicator_other, key_cases}
use Rattle.formal_sums.specs.FormalSums.{Each, FormalSum, IsSame, Key, coefficient, indicator, shift}
use Rattle.orders.specs.KeyOrders.{KeyDivides}
use Rattle.above_examples.specs.Square.{monomial}

-- a property of each item, by place
pub each_at : {X : Type 0} (P : X → Type 0) (d : X) (xs : List X) → Each P xs → (i : ℕ) → i < length xs → P (get_or xs i d)
each_at P d [] h i lt = absurd (omega (arith, lt))
each_at P d (x ∷ xs) h zero lt = h.0
each_at P d (x ∷ xs) h (suc i) lt = each_at P d xs h.1 i (omega (arith, lt))

-- k is a key of v, of which P holds, or v has no coefficient there
pub at_key : {n : ℕ} (P : Key n → Type 0) (k : Key n) (v : FormalSum n) → Each (λ t. P t.0) v → P k ⊎ (coefficient v k ≡ 0)
at_key P k [] h = inr (omega arith)
at_key P k (t ∷ v) h = go (key_cases k t.0) (at_key P k v h.1)
  where
    go : (k ≡ t.0) ⊎ (k ≡ t.0 → ⊥) → P k ⊎ (coefficient v k ≡ 0) → P k ⊎ (coefficient (t ∷ v) k ≡ 0)
    go (inl e) r = inl (subst P (sym e) h.0)
    go (inr ne) (inl p) = inl p
    go (inr ne) (inr z) = inr (let d : indicator k t.0 ≡ 0 = indicator_other k t.0 ne in rw (d, z) (omega arith))

-- no key of v is k
pub absent : {n : ℕ} (k : Key n) (v : FormalSum n) → Each (λ t. k ≡ t.0 → ⊥) v → coefficient v k ≡ 0
absent k [] h = omega arith
absent k (t ∷ v) h =
    let a : indicator k t.0 ≡ 0 = indicator_other k t.0 h.0 in
    let b : coefficient v k ≡ 0 = absent k v h.1 in
    rw (a, b) (omega arith)

-- l divides k, and no key of v
pub undivided : {n : ℕ} (l k : Key n) → KeyDivides l k → (v : FormalSum n) → Each (λ t. KeyDivides l t.0 → ⊥) v → coefficient v k ≡ 0
undivided {n} l k d v h = absent k v (go v h)
  where
    go : (v : FormalSum n) → Each (λ t. KeyDivides l t.0 → ⊥) v → Each (λ t. k ≡ t.0 → ⊥) v
    go [] h = tt
    go (t ∷ v) h = ((λ e. h.0 (subst (KeyDivides l) e d)), go v h.1)

-- what divides has no greater exponent
pub exponents_divide : (i j a b c d : ℕ) → KeyDivides (i, monomial a b) (j, monomial c d) → (i ≡ j) × (a ≤ c) × (b ≤ d)
exponents_divide i j a b c d (m, e) = go m e
  where
    go : (m : Exponents 2) → shift m (i, monomial a b) ≡ (j, monomial c d) → (i ≡ j) × (a ≤ c) × (b ≤ d)
    go (cons x (cons y nil)) e =
        let q : x + a ≡ c = ap (λ k. head k.1) e in
        let r : y + b ≡ d = ap (λ k. head (tail k.1)) e in
        (ap (λ k. k.0) e, omega (arith, q), omega (arith, r))

-- a term and 100 times it cancel modulo 101
pub cancels : {n : ℕ} (k : Key n) → IsSame 101 ((k, 1) ∷ ((k, 100) ∷ [])) []
cancels k = record { by_key = λ x. IsCongruent_trans (IsCongruent_of 101 _ (indicator x k + (101 - 1) * indicator x k) (omega arith)) (IsCongruent_minus 101 (indicator x k) (omega arith)) }
