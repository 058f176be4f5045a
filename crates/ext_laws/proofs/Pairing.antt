-- Pairings of vectors by their coefficients
use Rattle.std.proofs.Common.{Bool, [], ap, arith, cond, eq-eqb, eqb, eqb-true, false, flat_map, inl, inr, refl, sym, true, ℕ, ◌*◌, ◌++◌, ◌+◌, ◌∙◌, ◌∷◌, ◌≡◌, ◌⊎◌}
use Rattle.std.proofs.lemmas.Bool.{eqb-false}
use Rattle.std.specs.Prelude.{nat_eq}
use Rattle.monomials.proofs.Monomials.{times_comm}
use Rattle.monomials.specs.Exponents.{times}
use Rattle.formal_sums.proofs.WeightedSums.{coefficient-append}
use Rattle.formal_sums.specs.FormalSums.{FormalSum, Key, Term, coefficient}
use Rattle.ext_laws.specs.Transposes.{pairing}

-- the product of two terms at one position, as a polynomial; zero at two
abbrev pub term_product : {n : ℕ} → (s t : Term n) → FormalSum n
term_product s t = cond (nat_eq s.0.0 t.0.0) (((0, times s.0.1 t.0.1), s.1 * t.1) ∷ []) []

-- a term times the component of v at its position
abbrev pub term_pairing : {n : ℕ} → Term n → FormalSum n → FormalSum n
term_pairing s v = flat_map (λ t. term_product s t) v

pub nat_cases : (a b : ℕ) → (a ≡ b) ⊎ (a ≡ b → ⊥)
nat_cases a b = go (eqb a b) refl
  where
    go : (c : Bool) → eqb a b ≡ c → (a ≡ b) ⊎ (a ≡ b → ⊥)
    go true e = inl (eqb-true a b e)
    go false e = inr (eqb-false a b e)

pub eqb_other : (a b : ℕ) → (a ≡ b → ⊥) → nat_eq a b ≡ false
eqb_other a b ne = go (eqb a b) refl
  where
    go : (c : Bool) → eqb a b ≡ c → c ≡ false
    go true e = absurd (ne (eqb-true a b e))
    go false e = refl

pub product_at_one : {n : ℕ} (s t : Term n) → s.0.0 ≡ t.0.0 → term_product s t ≡ ((0, times s.0.1 t.0.1), s.1 * t.1) ∷ []
product_at_one s t e = ap (λ b. cond b (((0, times s.0.1 t.0.1), s.1 * t.1) ∷ []) []) (eq-eqb s.0.0 t.0.0 e)

pub product_at_two : {n : ℕ} (s t : Term n) → (s.0.0 ≡ t.0.0 → ⊥) → term_product s t ≡ []
product_at_two s t ne = ap (λ b. cond b (((0, times s.0.1 t.0.1), s.1 * t.1) ∷ []) []) (eqb_other s.0.0 t.0.0 ne)

term_product-comm : {n : ℕ} (s t : Term n) → term_product s t ≡ term_product t s
term_product-comm {n} s t = go (nat_cases s.0.0 t.0.0)
  where
    go : (s.0.0 ≡ t.0.0) ⊎ (s.0.0 ≡ t.0.0 → ⊥) → term_product s t ≡ term_product t s
    go (inl e) =
        let q : s.1 * t.1 ≡ t.1 * s.1 = omega arith in
        product_at_one s t e ∙ ap (λ m. ((0, m), s.1 * t.1) ∷ []) (times_comm s.0.1 t.0.1) ∙ ap (λ c. ((0, times t.0.1 s.0.1), c) ∷ []) q ∙ sym (product_at_one t s (sym e))
    go (inr ne) = product_at_two s t ne ∙ sym (product_at_two t s (λ e. ne (sym e)))

-- a pairing by the terms of the second vector
pairing-cons :
    {n : ℕ} (v : FormalSum n) (t : Term n) (c : FormalSum n) (k : Key n)
    → coefficient (pairing v (t ∷ c)) k ≡ coefficient (term_pairing t v) k + coefficient (pairing v c) k
pairing-cons [] t c k = refl
pairing-cons (s ∷ v) t c k =
    let one = coefficient-append (term_product s t ++ term_pairing s c) (pairing v (t ∷ c)) k in
    let two = coefficient-append (term_product s t) (term_pairing s c) k in
    let three = coefficient-append (term_pairing s c) (pairing v c) k in
    let four = coefficient-append (term_product t s) (term_pairing t v) k in
    let five : coefficient (term_product s t) k ≡ coefficient (term_product t s) k = ap (λ w. coefficient w k) (term_product-comm s t) in
    let six = pairing-cons v t c k in
    omega (arith, one, two, three, four, five, six)

pub pairing-nothing : {n : ℕ} (v : FormalSum n) → pairing v [] ≡ []
pairing-nothing [] = refl
pairing-nothing (s ∷ v) = pairing-nothing v

pub pairing-comm : {n : ℕ} (v c : FormalSum n) (k : Key n) → coefficient (pairing v c) k ≡ coefficient (pairing c v) k
pairing-comm v [] k = ap (λ w. coefficient w k) (pairing-nothing v)
pairing-comm v (t ∷ c) k =
    let one = pairing-cons v t c k in
    let two = coefficient-append (term_pairing t v) (pairing c v) k in
    let three = pairing-comm v c k in
    omega (arith, one, two, three)
