-- Vectors of polynomials as formal sums of terms (UAG chapter 5, section 1)
use Rattle.std.specs.Prelude.{Bool, List, [], cond, flat_map, map, nat_eq, ℕ, ◌&&◌, ◌*◌, ◌+◌, ◌<◌, ◌∷◌, ◌≡◌, ◌≤◌}
use Rattle.residues.specs.Residues.{IsCongruent}
use Rattle.monomials.specs.Exponents.{Exponents, same_exponents, times}

-- a position and a monomial: the monomial m e_i of a free module (UAG chapter 5, section 2)
abbrev pub Key : ℕ → Type 0
Key n = ℕ × Exponents n

-- a key and a coefficient
abbrev pub Term : ℕ → Type 0
Term n = Key n × ℕ

-- a formal sum: terms in any order, keys that may come twice, coefficients that may be 0 or above the modulus
abbrev pub FormalSum : ℕ → Type 0
FormalSum n = List (Term n)

-- each item of a list has the property
abbrev pub Each : {X : Type 0} → (X → Type 0) → List X → Type 0
Each P [] = Unit {0}
Each P (x ∷ xs) = P x × Each P xs

-- are position and monomial the same? (a test)
abbrev pub same_key : {n : ℕ} → Key n → Key n → Bool
same_key k l = nat_eq k.0 l.0 && same_exponents k.1 l.1

-- 1 at k and 0 elsewhere
abbrev pub indicator : {n : ℕ} → Key n → Key n → ℕ
indicator k l = cond (same_key k l) 1 0

-- the sum of c * f(k) over the terms c k of v
abbrev pub weighted_sum : {n : ℕ} → (Key n → ℕ) → FormalSum n → ℕ
weighted_sum f [] = 0
weighted_sum f (t ∷ v) = t.1 * f t.0 + weighted_sum f v

-- the coefficient of v at k, not reduced (IVA chapter 1, section 1)
abbrev pub coefficient : {n : ℕ} → FormalSum n → Key n → ℕ
coefficient v k = weighted_sum (indicator k) v

-- v and w are one vector modulo p: their coefficients are congruent (IVA chapter 1, section 1)
pub record IsSame {n : ℕ} (p : ℕ) (v w : FormalSum n) : Type 0 where
  pub by_key : (k : Key n) → IsCongruent p (coefficient v k) (coefficient w k)

-- v lies in the free module of rank m: its positions are below m (UAG chapter 5, section 1)
abbrev pub HasRank : {n : ℕ} → ℕ → FormalSum n → Type 0
HasRank m v = Each (λ t. t.0.0 < m) v

-- v lies in the free module of rank m modulo p: its coefficients at positions from m on are 0 (UAG chapter 5, section 1)
pub record IsOfRank {n : ℕ} (p m : ℕ) (v : FormalSum n) : Type 0 where
  pub past : (k : Key n) → m ≤ k.0 → IsCongruent p (coefficient v k) 0

-- v is a polynomial: its terms stand at position 0 (UAG chapter 5, section 1: rank 1)
abbrev pub IsPolynomial : {n : ℕ} → FormalSum n → Type 0
IsPolynomial v = Each (λ t. t.0.0 ≡ 0) v

-- the key m k, for a monomial m
abbrev pub shift : {n : ℕ} → Exponents n → Key n → Key n
shift m k = (k.0, times m k.1)

-- c m v, for a coefficient c and a monomial m
abbrev pub scale : {n : ℕ} → ℕ → Exponents n → FormalSum n → FormalSum n
scale c m v = map (λ t. (shift m t.0, c * t.1)) v

-- u v, for a polynomial u and a vector v (IVA chapter 1, section 1)
abbrev pub product : {n : ℕ} → FormalSum n → FormalSum n → FormalSum n
product u v = flat_map (λ t. scale t.1 t.0.1 v) u
