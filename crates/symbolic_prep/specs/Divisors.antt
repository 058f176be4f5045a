-- Vectors of a list, in the order in which they are tried as divisors
use Rattle.std.specs.Prelude.{Contains, List, [], bit_and, get_or, length, slice_index, ℕ, ◌<◌, ◌∷◌, ◌≡◌, ◌≤◌, ◌⊎◌}
use Rattle.std.specs.List.Sorted.{IsNonDecreasingBy}
use Rattle.formal_sums.specs.FormalSums.{Each}
use Rattle.term_lists.specs.declared.key.Key.{Key as CodeKey}
use Rattle.symbolic_prep.specs.Unary.{HasUnaryBits}
use Rattle.symbolic_prep.specs.declared.divisors.Divisor.{Divisor}
use Rattle.vector_division.specs.Divisors.{IsNoHigher}
use Rattle.vector_division.specs.Marks.{IsMarkOf}

-- the divisor has the number of a vector of the list, and the vector's mark
pub record IsDivisorOf (list : List (List (CodeKey × ℕ))) (d : Divisor) : Type 0 where
  pub within : d.member < length list
  pub mark : IsMarkOf (get_or list d.member []) d.mark

-- each vector of the list is one of them
abbrev pub AreAll : List (List (CodeKey × ℕ)) → List Divisor → Type 0
AreAll list divisors = (i : ℕ) → i < length list → (d : Divisor) × Contains divisors d × (d.member ≡ i)

-- the position of the lead
abbrev pub position_of : Divisor → ℕ
position_of d = d.mark.position

-- the bits are the word of the lead of v; nothing is said of zero
abbrev pub AreLeadBits : List (CodeKey × ℕ) → ℕ → Type 0
AreLeadBits [] bits = Unit {0}
AreLeadBits (t ∷ v) bits = HasUnaryBits t.0.monomial.exponents bits

-- number i is the bits of the lead of divisor i
pub record HaveBits (list : List (List (CodeKey × ℕ))) (divisors : List Divisor) (bits : List ℕ) : Type 0 where
  pub count : length bits ≡ length divisors
  pub each : (i : ℕ) (d : Divisor) → i < length divisors → d ≡ get_or divisors i d → AreLeadBits (get_or list d.member []) (slice_index bits i)

-- from place `at` on, and before `end`, each has one of the missing bits
abbrev pub HaveMissing : List ℕ → ℕ → ℕ → ℕ → Type 0
HaveMissing bits missing at end = (i : ℕ) → at ≤ i → i < end → bit_and (slice_index bits i) missing ≡ 0 → ⊥

-- number i is at most the degree of the lead of divisor i
pub record AreUpToLeads (list : List (List (CodeKey × ℕ))) (divisors : List Divisor) (degrees : List ℕ) : Type 0 where
  pub count : length degrees ≡ length divisors
  pub each : (i : ℕ) (d : Divisor) → i < length divisors → d ≡ get_or divisors i d → IsNoHigher (slice_index degrees i) (get_or list d.member [])

-- in ascending order, and each at most the number at its place
pub record AreAscendingBounds (numbers least : List ℕ) : Type 0 where
  pub count : length least ≡ length numbers
  pub below : (i : ℕ) → i < length numbers → slice_index least i ≤ slice_index numbers i
  pub ascending : IsNonDecreasingBy (λ (d : ℕ). d) least

-- in ascending order, and number i is at most the degree of the lead of divisor i
pub record AreLeastDegrees (list : List (List (CodeKey × ℕ))) (divisors : List Divisor) (least : List ℕ) : Type 0 where
  pub leads : AreUpToLeads list divisors least
  pub ascending : IsNonDecreasingBy (λ (d : ℕ). d) least

-- each divisor from `end` on has a greater position or a greater number
abbrev pub AreGreaterFrom : List Divisor → List ℕ → ℕ → ℕ → ℕ → Type 0
AreGreaterFrom divisors least position degree end =
    (i : ℕ) (d : Divisor) → end ≤ i → i < length divisors → d ≡ get_or divisors i d → (position < position_of d) ⊎ (degree < slice_index least i)

-- they are vectors of the list, and all of it, by ascending positions of their leads, with the bits and the least degrees of these
pub record AreSortedDivisors (list : List (List (CodeKey × ℕ))) (divisors : List Divisor) (bits least : List ℕ) : Type 0 where
  pub each : Each (IsDivisorOf list) divisors
  pub all : AreAll list divisors
  pub ascending : IsNonDecreasingBy position_of divisors
  pub kept : HaveBits list divisors bits
  pub degrees : AreLeastDegrees list divisors least
