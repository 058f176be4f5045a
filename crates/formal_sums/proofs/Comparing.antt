-- Sameness by the keys of the terms
use Rattle.std.proofs.Common.{List, [], arith, inl, inr, refl, subst, sym, ℕ, ◌++◌, ◌∙◌, ◌∷◌, ◌≡◌, ◌⊎◌}
use Rattle.residues.proofs.Congruences.{IsCongruent_of}
use Rattle.residues.specs.Residues.{IsCongruent}
use Rattle.formal_sums.proofs.WeightedSums.{indicator_other, key_cases}
use Rattle.formal_sums.specs.FormalSums.{Each, FormalSum, IsSame, Key, coefficient, indicator}

-- what holds of a part of a list
Each_front : {X : Type 0} (P : X → Type 0) (xs ys : List X) → Each P (xs ++ ys) → Each P xs
Each_front P [] ys h = tt
Each_front P (x ∷ xs) ys h = (h.0, Each_front P xs ys h.1)

Each_behind : {X : Type 0} (P : X → Type 0) (xs ys : List X) → Each P (xs ++ ys) → Each P ys
Each_behind P [] ys h = h
Each_behind P (x ∷ xs) ys h = Each_behind P xs ys h.1

-- k is a key of v and has what these have, or its coefficient is 0
at_key :
    {n : ℕ} (P : Key n → Type 0) (v : FormalSum n) (k : Key n) → Each (λ t. P t.0) v
    → P k ⊎ (coefficient v k ≡ 0)
at_key P [] k h = inr refl
at_key P (t ∷ v) k h = go (key_cases k t.0) (at_key P v k h.1)
  where
    go : (k ≡ t.0) ⊎ (k ≡ t.0 → ⊥) → P k ⊎ (coefficient v k ≡ 0) → P k ⊎ (coefficient (t ∷ v) k ≡ 0)
    go (inl e) r = inl (subst P (sym e) h.0)
    go (inr ne) (inl q) = inl q
    go (inr ne) (inr z) = let d : indicator k t.0 ≡ 0 = indicator_other k t.0 ne in inr (rw (d, z) (omega arith))

pub IsSame_compared :
    {n p : ℕ} (v w : FormalSum n)
    → Each (λ t. IsCongruent p (coefficient v t.0) (coefficient w t.0)) (v ++ w) → IsSame p v w
IsSame_compared {n} {p} v w h = record { by_key = λ k. go k (at_key P v k (Each_front (λ t. P t.0) v w h)) (at_key P w k (Each_behind (λ t. P t.0) v w h)) }
  where
    P : Key n → Type 0
    P k = IsCongruent p (coefficient v k) (coefficient w k)

    go : (k : Key n) → P k ⊎ (coefficient v k ≡ 0) → P k ⊎ (coefficient w k ≡ 0) → P k
    go k (inl q) r = q
    go k (inr z) (inl q) = q
    go k (inr z) (inr y) = IsCongruent_of p _ _ (z ∙ sym y)
