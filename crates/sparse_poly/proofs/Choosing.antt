-- Binomial coefficients: absorption, and those of a prime
use Rattle.std.proofs.Common.{ap, arith, inl, inr, mod-eq_of_lt, refl, suc, sym, zero, ℕ, ◌%◌, ◌*◌, ◌+◌, ◌-◌, ◌<◌, ◌∙◌, ◌≡◌, ◌≤◌, ◌⊎◌}
use Rattle.residues.proofs.Congruences.{IsCongruent_domain, IsCongruent_multiply, IsCongruent_nonzero, IsCongruent_of, IsCongruent_refl, IsCongruent_trans, IsCongruent_mod, IsCongruent_sym, IsCongruent_of_zero, IsCongruent_minus}
use Rattle.residues.specs.Residues.{IsCongruent, IsDomain}
use Rattle.sparse_poly.specs.Binomials.{choose}

pub choose-none : (n : ℕ) → choose n 0 ≡ 1
choose-none zero = refl
choose-none (suc n) = refl

pub choose_above : (n k : ℕ) → n < k → choose n k ≡ 0
choose_above n zero lt = absurd (omega arith)
choose_above zero (suc k) lt = refl
choose_above (suc n) (suc k) lt =
    let a : choose n k ≡ 0 = choose_above n k (omega arith) in
    let b : choose n (suc k) ≡ 0 = choose_above n (suc k) (omega arith) in
    rw (a, b) refl

pub choose-all : (n : ℕ) → choose n n ≡ 1
choose-all zero = refl
choose-all (suc n) =
    let a : choose n n ≡ 1 = choose-all n in
    let b : choose n (suc n) ≡ 0 = choose_above n (suc n) (omega arith) in
    rw (a, b) refl

absorb : (k n a b x y : ℕ) → suc k * a ≡ suc n * x → suc (suc k) * b ≡ suc n * y → a ≡ x + y → suc (suc k) * (a + b) ≡ suc (suc n) * a
absorb k n a b x y e f g =
    let h : suc n * a ≡ suc n * (x + y) = ap (λ z. suc n * z) g in
    let i : suc n * (x + y) ≡ suc n * x + suc n * y = omega arith in
    let j : suc (suc k) * (a + b) ≡ suc k * a + a + suc (suc k) * b = omega arith in
    let l : suc (suc n) * a ≡ suc n * a + a = omega arith in
    omega arith

-- (k + 1) (n + 1 over k + 1) = (n + 1) (n over k)
pub choose_absorb : (n k : ℕ) → suc k * choose (suc n) (suc k) ≡ suc n * choose n k
choose_absorb zero zero = refl
choose_absorb zero (suc k) = omega arith
choose_absorb (suc n) zero =
    let e : 1 * choose (suc n) 1 ≡ suc n * choose n 0 = choose_absorb n 0 in
    let z : choose n 0 ≡ 1 = choose-none n in
    let f : 1 * choose (suc n) 1 ≡ suc n * 1 = e ∙ ap (λ x. suc n * x) z in
    let g : 1 * (1 + choose (suc n) 1) ≡ suc (suc n) * 1 = omega arith in
    g
choose_absorb (suc n) (suc k) =
    absorb k n (choose (suc n) (suc k)) (choose (suc n) (suc (suc k))) (choose n k) (choose n (suc k)) (choose_absorb n k) (choose_absorb n (suc k)) refl

-- from one to the next: (k + 1) (n over k + 1) = (n - k) (n over k)
pub choose_next : (n k : ℕ) → k ≤ n → suc k * choose n (suc k) ≡ (n - k) * choose n k
choose_next n k le =
    let m : ℕ = n - k in
    let e : suc k * (choose n k + choose n (suc k)) ≡ suc n * choose n k = choose_absorb n k in
    let q : suc n ≡ suc k + m = omega arith in
    let f : suc k * (choose n k + choose n (suc k)) ≡ (suc k + m) * choose n k = e ∙ ap (λ x. x * choose n k) q in
    let g : suc k * choose n k + suc k * choose n (suc k) ≡ suc k * choose n k + m * choose n k = by_parts (suc k) m (choose n k) (choose n (suc k)) f in
    omega arith
  where
    by_parts : (k m a b : ℕ) → k * (a + b) ≡ (k + m) * a → k * a + k * b ≡ k * a + m * a
    by_parts k m a b e =
        let f : k * (a + b) ≡ k * a + k * b = omega arith in
        let g : (k + m) * a ≡ k * a + m * a = omega arith in
        omega arith

-- a prime divides its binomial coefficients but the outer ones
pub choose_prime : (p k : ℕ) → IsDomain p → 0 < k → k < p → IsCongruent p (choose p k) 0
choose_prime p zero d pos lt = absurd (omega arith)
choose_prime zero (suc k) d pos lt = absurd (omega arith)
choose_prime (suc q) (suc k) d pos lt = go (IsCongruent_domain d (suc k) (choose (suc q) (suc k)) whole)
  where
    whole : IsCongruent (suc q) (suc k * choose (suc q) (suc k)) 0
    whole =
        IsCongruent_trans (IsCongruent_of (suc q) _ _ (choose_absorb q k))
        (IsCongruent_of_zero (suc q) (choose q k) (IsCongruent_trans (IsCongruent_sym (IsCongruent_of (suc q) (1 + (suc q - 1) * 1) (suc q) (omega arith))) (IsCongruent_minus (suc q) 1 (omega arith))))

    go : IsCongruent (suc q) (suc k) 0 ⊎ IsCongruent (suc q) (choose (suc q) (suc k)) 0 → IsCongruent (suc q) (choose (suc q) (suc k)) 0
    go (inl z) = absurd (IsCongruent_nonzero (suc q) (suc k) pos lt z)
    go (inr z) = z

-- the next coefficient modulo a prime, by an inverse
pub next_value :
    (p n i c inverse : ℕ) → IsDomain p → i ≤ n → c ≡ choose n i % p → (suc i * inverse) % p ≡ 1
    → (((c * (n - i)) % p) * inverse) % p ≡ choose n (suc i) % p
next_value p n i c inverse d le e one = whole.same
  where
    positive : 1 < p
    positive = d.above_one

    reduced : IsCongruent p c (choose n i)
    reduced = IsCongruent_trans (IsCongruent_of p _ _ e) (IsCongruent_mod p (choose n i))

    unit_is : IsCongruent p (suc i * inverse) 1
    unit_is = record { same = one ∙ sym (mod-eq_of_lt positive) }

    commuted : (a b : ℕ) → a * b ≡ b * a
    commuted a b = omega arith

    turned : (a b c : ℕ) → (a * b) * c ≡ b * (a * c)
    turned a b c = omega arith

    regroup : (choose n i * (n - i)) * inverse ≡ choose n (suc i) * (suc i * inverse)
    regroup =
        let f : suc i * choose n (suc i) ≡ (n - i) * choose n i = choose_next n i le in
        let g : (choose n i * (n - i)) * inverse ≡ ((n - i) * choose n i) * inverse = ap (λ x. x * inverse) (commuted (choose n i) (n - i)) in
        g ∙ ap (λ x. x * inverse) (sym f) ∙ turned (suc i) (choose n (suc i)) inverse

    whole : IsCongruent p (((c * (n - i)) % p) * inverse) (choose n (suc i))
    whole =
        IsCongruent_trans (IsCongruent_multiply (IsCongruent_trans (IsCongruent_mod p (c * (n - i))) (IsCongruent_multiply reduced (IsCongruent_refl p (n - i)))) (IsCongruent_refl p inverse))
        (IsCongruent_trans (IsCongruent_of p _ _ regroup)
        (IsCongruent_trans (IsCongruent_multiply (IsCongruent_refl p (choose n (suc i))) unit_is) (IsCongruent_of p _ _ (omega arith))))
