-- The constants of a vector's terms and of columns, and the first ones
use Rattle.std.specs.Prelude.{Contains, List, None, Option, Some, [], get_or, length, ℕ, ◌<◌, ◌≡◌, ◌≤◌}
use Rattle.monomials.specs.Exponents.{unit}
use Rattle.formal_sums.specs.FormalSums.{Each, FormalSum, coefficient}
use Rattle.minimal_laws.specs.Minimal.{IsConstantAt}
use Rattle.term_lists.specs.Rings.{variables}
use Rattle.term_lists.specs.Vectors.{sums_of}
use Rattle.term_lists.specs.declared.key.Key.{Key as CodeKey}
use Rattle.term_lists.specs.declared.ring.Ring.{Ring}
use Rattle.column_passes.specs.declared.constants.Constant.{Constant}

-- a term at this position, with the monomial 1 and this residue
pub record HasUnit (v : List (CodeKey × ℕ)) (position residue : ℕ) : Type 0 where
  pub term : CodeKey × ℕ
  pub contains : Contains v term
  pub position_is : term.0.position ≡ position
  pub one : term.0.monomial.degree ≡ 0
  pub residue_is : term.1 ≡ residue

-- such a term at the least position, or none where no term has the monomial 1
abbrev pub IsLeastUnit : List (CodeKey × ℕ) → Option (ℕ × ℕ) → Type 0
IsLeastUnit v None = Each (λ t. t.0.monomial.degree ≡ 0 → ⊥) v
IsLeastUnit v (Some a) = HasUnit v a.0 a.1 × Each (λ t. t.0.monomial.degree ≡ 0 → a.0 ≤ t.0.position) v

-- no column has a constant; past the last one stands zero
abbrev pub HasNoConstants : {n : ℕ} → ℕ → List (FormalSum n) → Type 0
HasNoConstants p F = (c r : ℕ) → IsConstantAt p (get_or F c []) r → ⊥

-- the first constant of a map: the least column that has one, and in it the least row
pub record IsFirst (ring : Ring) (F : List (List (CodeKey × ℕ))) (at : Constant) : Type 0 where
  pub inside : at.column < length F
  pub constant : IsConstantAt ring.modulus.value (get_or (sums_of (variables ring) F) at.column []) at.row
  pub residue : coefficient (get_or (sums_of (variables ring) F) at.column []) (at.row, unit (variables ring)) ≡ at.residue
  pub nonzero : 0 < at.residue
  pub reduced : at.residue < ring.modulus.value
  pub first_column : (b q : ℕ) → b < at.column → IsConstantAt ring.modulus.value (get_or (sums_of (variables ring) F) b []) q → ⊥
  pub first_row : (q : ℕ) → q < at.row → IsConstantAt ring.modulus.value (get_or (sums_of (variables ring) F) at.column []) q → ⊥
