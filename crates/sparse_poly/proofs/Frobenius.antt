-- Powers of terms, and the Frobenius map
use Rattle.std.proofs.Common.{[], ap, ap₂, arith, refl, suc, sym, zero, ℕ, ◌*◌, ◌++◌, ◌+◌, ◌<◌, ◌^◌, ◌∙◌, ◌∷◌, ◌≡◌}
use Rattle.std.proofs.Math.Nat.{pow-succ', pow-zero}
use Rattle.residues.proofs.Congruences.{IsCongruent_add, IsCongruent_multiply, IsCongruent_of, IsCongruent_refl, IsCongruent_trans}
use Rattle.residues.specs.Residues.{IsCongruent, IsDomain}
use Rattle.monomials.specs.Exponents.{Exponents, cons, nil, times, unit}
use Rattle.formal_sums.proofs.Sameness.{IsSame_append, IsSame_of, IsSame_refl, IsSame_trans}
use Rattle.formal_sums.proofs.WeightedSums.{coefficient-append, indicator_same}
use Rattle.formal_sums.specs.FormalSums.{FormalSum, IsPolynomial, IsSame, Key, coefficient, indicator, product}
use Rattle.sparse_poly.proofs.Forms.{frobenius_sum}
use Rattle.sparse_poly.proofs.Powering.{IsSame_power}
use Rattle.sparse_poly.specs.Powers.{polynomial_power}
use Rattle.sparse_poly.specs.TermPowers.{monomial_power, raised_monomials}

pub monomial_power-none : {n : ℕ} (m : Exponents n) → monomial_power 0 m ≡ unit n
monomial_power-none nil = refl
monomial_power-none (cons a m) =
    let z : 0 * a ≡ 0 = omega arith in
    ap₂ cons z (monomial_power-none m)

pub monomial_power-suc : {n : ℕ} (k : ℕ) (m : Exponents n) → monomial_power (suc k) m ≡ times m (monomial_power k m)
monomial_power-suc k nil = refl
monomial_power-suc k (cons a m) =
    let e : suc k * a ≡ a + k * a = omega arith in
    ap₂ cons e (monomial_power-suc k m)

-- the power of one term
pub power_term : {n : ℕ} (m : Exponents n) (c k : ℕ) → polynomial_power (((0, m), c) ∷ []) k ≡ ((0, monomial_power k m), c ^ k) ∷ []
power_term {n} m c zero =
    let one : 1 ≡ c ^ 0 = sym (pow-zero c) in
    ap₂ (λ l d. ((0, l), d) ∷ []) (sym (monomial_power-none m)) one
power_term {n} m c (suc k) =
    ap (product (((0, m), c) ∷ [])) (power_term m c k)
    ∙ ap₂ (λ l d. ((0, l), d) ∷ []) (sym (monomial_power-suc k m)) (sym (pow-succ' c k))

one-pow : (k : ℕ) → 1 ^ k ≡ 1
one-pow zero = pow-zero 1
one-pow (suc k) = pow-succ' 1 k ∙ ap (λ x. 1 * x) (one-pow k)

-- the number c as a polynomial without variables
abbrev single : ℕ → FormalSum 0
single c = ((0, nil), c) ∷ []

abbrev one : Key 0
one = (0, nil)

-- the p-th power of a number is congruent to it (Fermat)
pub fermat : (p c : ℕ) → IsDomain p → IsCongruent p (c ^ p) c
fermat p zero d = by p (let h : 1 < p = d.above_one in omega arith)
  where
    by : (q : ℕ) → 0 < q → IsCongruent p (0 ^ q) 0
    by zero lt = absurd (omega arith)
    by (suc q) lt = IsCongruent_of p _ _ (pow-succ' 0 q ∙ omega arith)
fermat p (suc c) d =
    IsCongruent_trans (IsCongruent_of p _ _ (sym (at (suc c))))
    (IsCongruent_trans (whole.by_key one)
    (IsCongruent_trans (IsCongruent_of p _ _ sides) (IsCongruent_trans (IsCongruent_add (fermat p c d) (IsCongruent_of p _ _ ones)) (IsCongruent_of p _ _ (omega arith)))))
  where
    at : (c : ℕ) → coefficient (polynomial_power (single c) p) one ≡ c ^ p
    at c =
        let i : indicator (0, nil) (0, monomial_power p (nil)) ≡ 1 = indicator_same (0, nil) (0, monomial_power p (nil)) refl in
        ap (λ v. coefficient v (0, nil)) (power_term (nil) c p) ∙ ap (λ x. c ^ p * x + 0) i ∙ omega arith

    positive : 0 < p
    positive = let h : 1 < p = d.above_one in omega arith

    added : IsSame p (single (suc c)) (single c ++ single 1)
    added = record { by_key = λ k. IsCongruent_of p _ _ (omega arith) }

    whole : IsSame p (polynomial_power (single (suc c)) p) (polynomial_power (single c) p ++ polynomial_power (single 1) p)
    whole = IsSame_trans (IsSame_power positive (single (suc c)) (single c ++ single 1) p added) (frobenius_sum positive (single c) (single 1) (refl, tt) (refl, tt) d)

    sides : coefficient (polynomial_power (single c) p ++ polynomial_power (single 1) p) one ≡ c ^ p + 1 ^ p
    sides = coefficient-append (polynomial_power (single c) p) (polynomial_power (single 1) p) one ∙ ap₂ (λ x y. x + y) (at c) (at 1)

    ones : 1 ^ p ≡ 1
    ones = one-pow p

-- the power p is the sum of the terms with their monomials to the power p, modulo a prime p
pub frobenius : {n p : ℕ} → IsDomain p → (v : FormalSum n) → IsPolynomial v → IsSame p (polynomial_power v p) (raised_monomials p v)
frobenius {n} {p} d [] h = by p (let h : 1 < p = d.above_one in omega arith)
  where
    nothing : FormalSum n
    nothing = []

    by : (q : ℕ) → 0 < q → IsSame p (polynomial_power nothing q) nothing
    by zero lt = absurd (omega arith)
    by (suc q) lt = IsSame_refl p []
frobenius {n} {p} d (t ∷ v) h =
    IsSame_trans (frobenius_sum positive (t ∷ []) v (h.0, tt) h.1 d) (IsSame_append first (frobenius d v h.1))
  where
    positive : 0 < p
    positive = let h : 1 < p = d.above_one in omega arith

    first : IsSame p (polynomial_power (t ∷ []) p) (((t.0.0, monomial_power p t.0.1), t.1) ∷ [])
    first =
        let z : t.0.0 ≡ 0 = h.0 in
        IsSame_trans
        (IsSame_of p _ _ (ap (λ i. polynomial_power (((i, t.0.1), t.1) ∷ []) p) z ∙ power_term t.0.1 t.1 p ∙ ap (λ i. ((i, monomial_power p t.0.1), t.1 ^ p) ∷ []) (sym z)))
        (record { by_key = λ k. IsCongruent_add (IsCongruent_multiply (fermat p t.1 d) (IsCongruent_refl p _)) (IsCongruent_refl p 0) })
