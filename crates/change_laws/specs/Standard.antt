-- Standard monomials of an ideal (IVA chapter 5, section 3)
use Rattle.std.specs.Prelude.{List, get_or, length, map, suc, zero, ℕ, ◌<◌, ◌≡◌}
use Rattle.monomials.specs.Exponents.{Divides, Exponents, cons, nil, unit}
use Rattle.formal_sums.specs.FormalSums.{FormalSum}
use Rattle.bases.specs.Leads.{head_key}

-- the leads of the members of G without their positions, which are 0 in an ideal
abbrev pub lead_monomials : {n : ℕ} → List (FormalSum n) → List (Exponents n)
lead_monomials G = map (λ g. (head_key g).1) G

-- m is in the list
abbrev pub Has : {n : ℕ} → List (Exponents n) → Exponents n → Type 0
Has {n} ms m = (k : ℕ) × (k < length ms) × (get_or ms k (unit n) ≡ m)

-- m is standard: no monomial of the list divides it (IVA chapter 5, section 3)
abbrev pub IsStandard : {n : ℕ} → List (Exponents n) → Exponents n → Type 0
IsStandard {n} L m = (k : ℕ) → k < length L → Divides (get_or L k (unit n)) m → ⊥

-- no two of the list are one
abbrev pub AreDistinct : {n : ℕ} → List (Exponents n) → Type 0
AreDistinct {n} ms = (i j : ℕ) → i < j → j < length ms → get_or ms i (unit n) ≡ get_or ms j (unit n) → ⊥

-- ms has each standard monomial once, and no other
pub record AreStandard {n : ℕ} (L ms : List (Exponents n)) : Type 0 where
  pub distinct : AreDistinct ms
  pub standard : (m : Exponents n) → Has ms m → IsStandard L m
  pub all : (m : Exponents n) → IsStandard L m → Has ms m

-- x^a, for the variable x with the index i, from 0
abbrev pub power : (n i a : ℕ) → Exponents n
power zero i a = nil
power (suc n) zero a = cons a (unit n)
power (suc n) (suc i) a = cons 0 (power n i a)

-- some variable has no power in the list, the power 1 included: there are infinitely many standard monomials
-- (IVA chapter 5, section 3: the finiteness theorem)
abbrev pub IsInfinite : {n : ℕ} → List (Exponents n) → Type 0
IsInfinite {n} L = (i : ℕ) × (i < n) × ((a : ℕ) → Has L (power n i a) → ⊥)

-- there are more than 256 standard monomials
pub record HasMany {n : ℕ} (L : List (Exponents n)) : Type 0 where
  pub monomials : List (Exponents n)
  pub distinct : AreDistinct monomials
  pub standard : (m : Exponents n) → Has monomials m → IsStandard L m
  pub more : 256 < length monomials
