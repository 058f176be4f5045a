-- How a monomial stores its exponents. No public clause cites this module.
use Rattle.std.specs.Prelude.{List, length, max, slice_index, take, ℕ, ◌<◌, ◌≡◌, ◌≤◌}
use Rattle.monomial_orders.specs.Kept.{Monomial}
use Rattle.monomial_orders.specs.declared.storage.Stored.{Stored}

-- the places, of which the exponents are the first
abbrev pub places_of : Stored → List ℕ
places_of s = s.places.items

-- the number of variables
abbrev pub stored_variables : Stored → ℕ
stored_variables s = s.variables

-- the degree that is kept
abbrev pub degree_kept : Stored → ℕ
degree_kept s = s.degree

-- the places of n variables: at least 16, and 0 behind the last variable
pub record IsFilled (n : ℕ) (s : Stored) : Type 0 where
  pub variables : stored_variables s ≡ n
  pub long : length (places_of s) ≡ max 16 n
  pub rest : (k : ℕ) → n ≤ k → slice_index (places_of s) k ≡ 0

-- what each monomial keeps: its places are 16-bit numbers, none above the degree, which has 32 bits
pub record IsKept (n degree : ℕ) (s : Stored) : Type 0 where
  pub filled : IsFilled n s
  pub bounded : (k : ℕ) → slice_index (places_of s) k < 65536
  pub held : (k : ℕ) → slice_index (places_of s) k ≤ degree
  pub narrow : degree < 4294967296

-- the monomial of n variables that is stored so
abbrev pub monomial_of : ℕ → ℕ → Stored → Monomial
monomial_of n degree s = record { exponents = take n (places_of s); degree = degree }

-- the monomial m is stored so
pub record IsStored (m : Monomial) (s : Stored) : Type 0 where
  pub kept : IsKept (length m.exponents) m.degree s
  pub front : m.exponents ≡ take (length m.exponents) (places_of s)
  pub degree : degree_kept s ≡ m.degree
