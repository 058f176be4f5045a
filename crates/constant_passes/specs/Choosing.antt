-- The steps by which the constants of columns leave
use Rattle.std.specs.Prelude.{Contains, List, None, Option, Some, [], length, map, set, ℕ, ◌*◌, ◌++◌, ◌<◌, ◌∷◌, ◌≡◌, ◌≤◌, ◌⊎◌}
use Rattle.residues.specs.Residues.{IsCongruent}
use Rattle.formal_sums.specs.FormalSums.{Each, FormalSum, IsSame}
use Rattle.minimal_laws.specs.Minimal.{IsConstantAt}
use Rattle.term_lists.specs.Rings.{variables}
use Rattle.term_lists.specs.declared.ring.Ring.{Ring}
use Rattle.constant_rows.specs.Rows.{AreZeros, entry_constants}
use Rattle.constant_rows.specs.declared.constants.Constants.{Constants}
use Rattle.column_passes.specs.Constants.{HasNoConstants}
use Rattle.column_passes.specs.Passing.{AreFirstSteps, AreNumbered, HaveNoOthers, Pivot, left_by_all}
use Rattle.column_passes.specs.Placing.{ArePlacesAfter, without_all}
use Rattle.constant_passes.specs.Steps.{AreLeftOver, IsConstantStep, cleared_by_constants}
use Rattle.constant_passes.specs.declared.leaving.Chosen.{Chosen}
use Rattle.constant_passes.specs.declared.choosing.Pass.{Pass}
use Rattle.constant_passes.specs.declared.clearing.Step.{Step}

-- the columns without the rows that leave in turn
abbrev pub columns_without_rows : {n : ℕ} → List ℕ → List (FormalSum n) → List (FormalSum n)
columns_without_rows rows F = map (λ v. without_all rows v) F

-- the steps by which the constants of these columns leave, each time the first one, with their rows and columns
pub record IsChosen (ring : Ring) (F : List (FormalSum (variables ring))) (chosen : Chosen) : Type 0 where
  pub pivots : List (Pivot (variables ring))
  pub firsts : AreFirstSteps ring F pivots
  pub none : HasNoConstants ring.modulus.value (left_by_all ring pivots F)
  pub rows : ArePlacesAfter (map (λ s. s.row) pivots) chosen.rows
  pub indices : ArePlacesAfter (map (λ s. s.index) pivots) chosen.indices

-- ---- one column
-- an entry in the least row, or none where there is no entry
abbrev pub IsLeastEntry : List (ℕ × ℕ) → Option (ℕ × ℕ) → Type 0
IsLeastEntry entries None = entries ≡ []
IsLeastEntry entries (Some a) = Contains entries a × Each (λ e. a.0 ≤ e.0) entries

-- nothing is left of the column, or the least entry that is left of it makes the next step
abbrev pub IsColumnChosen : Ring → ℕ → Constants → List Step → List Step → List (Option (ℕ × ℕ)) → List (Option (ℕ × ℕ)) → Type 0
IsColumnChosen ring c column steps steps' choices choices' =
    ((column.entries.items ≡ []) × (steps' ≡ steps) × (choices' ≡ set choices c None))
    ⊎ ((row inverse residue : ℕ) × IsLeastEntry column.entries.items (Some (row, residue)) × IsCongruent ring.modulus.value (inverse * residue) 1
    × (inverse < ring.modulus.value) × (steps' ≡ steps ++ record { row = row; inverse = inverse; column = column } ∷ [])
    × (choices' ≡ set choices c (Some (row, inverse))))

-- no step has the row of a constant that the steps leave of v
abbrev pub AreFree : (ring : Ring) → List Step → FormalSum (variables ring) → Type 0
AreFree ring steps v = (q : ℕ) → IsConstantAt ring.modulus.value (cleared_by_constants ring steps v) q → Each (λ s. s.row ≡ q → ⊥) steps

-- the column v with this number was cleared by the steps, and what is left of it makes the next step or nothing
pub record IsColumnMet (ring : Ring) (c : ℕ) (v : FormalSum (variables ring)) (old new : Pass) : Type 0 where
  pub column : Constants
  pub over : AreLeftOver ring column
  pub left : IsSame ring.modulus.value (entry_constants (variables ring) column.entries.items) (cleared_by_constants ring old.table.steps.items v)
  pub chosen : IsColumnChosen ring c column old.table.steps.items new.table.steps.items old.choices.items new.choices.items

-- ---- the pass
-- its steps are numbered by their rows, and the sums are 0
pub record IsPassOver (ring : Ring) (pass : Pass) : Type 0 where
  pub steps : Each (IsConstantStep ring) pass.table.steps.items
  pub numbered : AreNumbered pass.table.numbers.items 0 (map (λ s. s.row) pass.table.steps.items)
  pub others : HaveNoOthers pass.table.numbers.items (map (λ s. s.row) pass.table.steps.items)
  pub zeros : AreZeros pass.rows.sums.items

-- no step yet, and room for the choices of so many columns
pub record IsPassStart (count : ℕ) (pass : Pass) : Type 0 where
  pub steps : pass.table.steps.items ≡ []
  pub numbers : pass.table.numbers.items ≡ []
  pub choices : length pass.choices.items ≡ count
  pub zeros : AreZeros pass.rows.sums.items
