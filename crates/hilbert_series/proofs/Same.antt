-- Lists of monomials with the same multiples have one numerator
use Rattle.std.proofs.Common.{Bool, List, [], ap, arith, false, inl, inr, map, refl, sym, true, ℕ, ◌&&◌, ◌∙◌, ◌∷◌, ◌≡◌, ◌||◌, ◌⊎◌}
use Rattle.std.proofs.lemmas.Bool.Decides.{nat_tests}
use Rattle.std.specs.Prelude.{cond, nat_le, pos, ℤ, ◌++◌}
use Rattle.monomials.specs.Exponents.{Exponents, cons, nil, quotient}
use Rattle.monomials.specs.Weights.{weighted_degree}
use Rattle.monomial_counts.proofs.Counting.{sum_of_degree_ext}
use Rattle.monomial_counts.specs.Counts.{has_divisor, is_divisor, standard_count}
use Rattle.hilbert_laws.proofs.OneMore.{IsNumerator_more}
use Rattle.hilbert_laws.specs.Numerators.{IsNumerator}
use Rattle.hilbert_laws.specs.Shifting.{minus, shifted}
use Rattle.hilbert_series.specs.Generators.{HaveSameMultiples}

-- lists with the same multiples have the same counts
standard_count_same :
    (n : ℕ) (ws : List ℕ) (ms ks : List (Exponents n)) (d : ℕ) → HaveSameMultiples ms ks → standard_count ws ms d ≡ standard_count ws ks d
standard_count_same n ws ms ks d h = sum_of_degree_ext ws n d _ _ (λ v. ap (λ b. cond b 0 1) (h v))

pub IsNumerator_same :
    (n : ℕ) (ws : List ℕ) (ms ks : List (Exponents n)) (K : List ℤ) → HaveSameMultiples ms ks
    → IsNumerator ws n K (standard_count ws ms) → IsNumerator ws n K (standard_count ws ks)
IsNumerator_same n ws ms ks K h a d = a d ∙ ap pos (standard_count_same n ws ms ks d h)

-- a divisor's multiples
le_trans : (a b c : ℕ) → nat_le a b ≡ true → nat_le b c ≡ true → nat_le a c ≡ true
le_trans a b c e f = grind (arith, nat_tests)

both : (b c : Bool) → b && c ≡ true → (b ≡ true) × (c ≡ true)
both true c e = (refl, e)
both false c e = grind arith

either : (b c : Bool) → b || c ≡ true → (b ≡ true) ⊎ (c ≡ true)
either true c e = inl refl
either false c e = inr e

together : (b c : Bool) → b ≡ true → c ≡ true → b && c ≡ true
together true c e f = f
together false c e f = grind arith

right_true : (b c : Bool) → c ≡ true → b || c ≡ true
right_true true c e = refl
right_true false c e = e

left_true : (b c : Bool) → b ≡ true → b || c ≡ true
left_true true c e = refl
left_true false c e = grind arith

is_divisor_trans : {n : ℕ} (m w v : Exponents n) → is_divisor m w ≡ true → is_divisor w v ≡ true → is_divisor m v ≡ true
is_divisor_trans nil nil nil e f = refl
is_divisor_trans (cons a m) (cons b w) (cons c v) e f =
    let p = both (nat_le a b) (is_divisor m w) e in
    let q = both (nat_le b c) (is_divisor w v) f in
    together (nat_le a c) (is_divisor m v) (le_trans a b c p.0 q.0) (is_divisor_trans m w v p.1 q.1)

has_divisor_trans :
    {n : ℕ} (ms : List (Exponents n)) (w v : Exponents n) → has_divisor ms w ≡ true → is_divisor w v ≡ true → has_divisor ms v ≡ true
has_divisor_trans [] w v e f = e
has_divisor_trans (m ∷ ms) w v e f = elim (either (is_divisor m w) (has_divisor ms w) e) [
  | inl a ↦ left_true (is_divisor m v) (has_divisor ms v) (is_divisor_trans m w v a f)
  | inr b ↦ right_true (is_divisor m v) (has_divisor ms v) (has_divisor_trans ms w v b f)
]

absorbed : (b c : Bool) → (b ≡ true → c ≡ true) → b || c ≡ c
absorbed true c h = sym (h refl)
absorbed false c h = refl

-- a generator that another divides may be left out
pub has_divisor_redundant :
    {n : ℕ} (ms : List (Exponents n)) (m v : Exponents n) → has_divisor ms m ≡ true → has_divisor (m ∷ ms) v ≡ has_divisor ms v
has_divisor_redundant ms m v e = absorbed (is_divisor m v) (has_divisor ms v) (λ f. has_divisor_trans ms m v e f)

or_right : (a b c : Bool) → a || (b || c) ≡ (a || b) || c
or_right true b c = refl
or_right false b c = refl

pub has_divisor-append :
    {n : ℕ} (ms ks : List (Exponents n)) (v : Exponents n) → has_divisor (ms ++ ks) v ≡ has_divisor ms v || has_divisor ks v
has_divisor-append [] ks v = refl
has_divisor-append (m ∷ ms) ks v =
    ap (λ b. is_divisor m v || b) (has_divisor-append ms ks v) ∙ or_right (is_divisor m v) (has_divisor ms v) (has_divisor ks v)

-- a generator coprime to all others: K(I + m) = (1 - t^deg(m)) K(I)
pub IsNumerator_coprime :
    {n : ℕ} (ws : List ℕ) (ms : List (Exponents n)) (m : Exponents n) (K : List ℤ) → map (λ s. quotient s m) ms ≡ ms
    → IsNumerator ws n K (standard_count ws ms) → IsNumerator ws n (minus K (shifted (weighted_degree ws m) K)) (standard_count ws (m ∷ ms))
IsNumerator_coprime ws ms m K e h = IsNumerator_more ws ms m K K h (λ d. h d ∙ ap (λ ks. pos (standard_count ws ks d)) (sym e))
