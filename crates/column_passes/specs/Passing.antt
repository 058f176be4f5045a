-- One pass over the columns of a map: its steps, and the columns after them
use Rattle.std.specs.Prelude.{List, None, Option, Some, [], drop, get_or, length, map, set, ℕ, ⊤, ◌*◌, ◌++◌, ◌+◌, ◌<◌, ◌∷◌, ◌≡◌, ◌≤◌, ◌⊎◌}
use Rattle.residues.specs.Residues.{IsCongruent}
use Rattle.monomials.specs.Exponents.{unit}
use Rattle.formal_sums.specs.FormalSums.{Each, FormalSum, IsSame, coefficient}
use Rattle.minimal_laws.specs.Cancellation.{AreSameColumns, cleared, remove_at, without_row}
use Rattle.minimal_laws.specs.Gradings.{AreHomogeneous, IsHomogeneous}
use Rattle.minimal_laws.specs.Minimal.{IsConstantAt}
use Rattle.term_lists.specs.Rings.{ring_comparison, variables}
use Rattle.term_lists.specs.Vectors.{AreVectorsOver, IsVectorOver, sum_of, sums_of}
use Rattle.term_lists.specs.declared.key.Key.{Key as CodeKey}
use Rattle.term_lists.specs.declared.ring.Ring.{Ring}
use Rattle.column_passes.specs.Constants.{HasNoConstants, IsLeastUnit}
use Rattle.column_passes.specs.Placing.{ArePlacesAfter, place_after, place_told, without_all}
use Rattle.column_passes.specs.declared.one_pass.Met.{Met}
use Rattle.column_passes.specs.declared.one_pass.Passed.{Passed}
use Rattle.column_passes.specs.declared.placing.Leaving.{Leaving}
use Rattle.column_passes.specs.declared.steps.Step.{Step}

-- a constant that leaves columns, by its row and the number of its column, with its inverse and its column
pub record Pivot (n : ℕ) : Type 0 where
  pub row : ℕ
  pub index : ℕ
  pub inverse : ℕ
  pub column : FormalSum n

-- v cleared by the pivot's column, without its row
abbrev pub applied : (ring : Ring) → Pivot (variables ring) → FormalSum (variables ring) → FormalSum (variables ring)
applied ring s v = without_row s.row (cleared ring.modulus.value s.row s.inverse s.column v)

-- columns after a pivot: its own is gone
abbrev pub left_by : (ring : Ring) → Pivot (variables ring) → List (FormalSum (variables ring)) → List (FormalSum (variables ring))
left_by ring s F = map (applied ring s) (remove_at s.index F)

-- columns after pivots in turn
abbrev pub left_by_all : (ring : Ring) → List (Pivot (variables ring)) → List (FormalSum (variables ring)) → List (FormalSum (variables ring))
left_by_all ring [] F = F
left_by_all ring (s ∷ pivots) F = left_by_all ring pivots (left_by ring s F)

-- the pivot is the first constant of these columns
pub record IsFirstStep (ring : Ring) (F : List (FormalSum (variables ring))) (s : Pivot (variables ring)) : Type 0 where
  pub inside : s.index < length F
  pub constant : IsConstantAt ring.modulus.value (get_or F s.index []) s.row
  pub first_column : (b q : ℕ) → b < s.index → IsConstantAt ring.modulus.value (get_or F b []) q → ⊥
  pub first_row : (q : ℕ) → q < s.row → IsConstantAt ring.modulus.value (get_or F s.index []) q → ⊥
  pub column : IsSame ring.modulus.value (get_or F s.index []) s.column
  pub inverse : IsCongruent ring.modulus.value (s.inverse * coefficient (get_or F s.index []) (s.row, unit (variables ring))) 1

-- each pivot is the first constant of the columns after those before
abbrev pub AreFirstSteps : (ring : Ring) → List (FormalSum (variables ring)) → List (Pivot (variables ring)) → Type 0
AreFirstSteps ring F [] = ⊤
AreFirstSteps ring F (s ∷ pivots) = IsFirstStep ring F s × AreFirstSteps ring (left_by ring s F) pivots

-- the columns are homogeneous of these degrees, whatever those of the rows
abbrev pub AreGradedColumns : (ring : Ring) → List ℕ → List (FormalSum (variables ring)) → Type 0
AreGradedColumns ring degrees F = (rows : List ℕ) × AreHomogeneous ring.weights ring.modulus.value rows degrees F

-- the vector is homogeneous, whatever its degree
abbrev pub IsGraded : Ring → List (CodeKey × ℕ) → Type 0
IsGraded ring v = (rows : List ℕ) × (d : ℕ) × IsHomogeneous ring.weights ring.modulus.value rows d (sum_of (variables ring) v)

-- ---- steps in the code, whose rows keep their first numbers
-- v cleared by the steps' columns in turn
abbrev pub cleared_all : (ring : Ring) → List Step → FormalSum (variables ring) → FormalSum (variables ring)
cleared_all ring [] v = v
cleared_all ring (s ∷ steps) v = cleared_all ring steps (cleared ring.modulus.value s.row s.inverse (sum_of (variables ring) s.column) v)

-- the table numbers these rows in turn, from this number on
abbrev pub AreNumbered : List ℕ → ℕ → List ℕ → Type 0
AreNumbered numbers i [] = ⊤
AreNumbered numbers i (row ∷ rows) = (get_or numbers row 18446744073709551615 ≡ i) × AreNumbered numbers (i + 1) rows

-- no other row has a number
abbrev pub HaveNoOthers : List ℕ → List ℕ → Type 0
HaveNoOthers numbers rows = (q : ℕ) → Each (λ r. r ≡ q → ⊥) rows → get_or numbers q 18446744073709551615 ≡ 18446744073709551615

-- those leave that have a number
pub record LeaveNumbered (numbers : List ℕ) (leaving : Leaving) : Type 0 where
  pub rows : List ℕ
  pub turn : ArePlacesAfter rows leaving
  pub leave : (q : ℕ) → (get_or numbers q 18446744073709551615 ≡ 18446744073709551615 → ⊥) → place_told leaving q ≡ None
  pub stay : (q : ℕ) → get_or numbers q 18446744073709551615 ≡ 18446744073709551615 → place_told leaving q ≡ None → ⊥

-- a step of a vector and a residue
abbrev pub IsStepOver : Ring → Step → Type 0
IsStepOver ring s = IsVectorOver ring (ring_comparison ring) s.column × (s.inverse < ring.modulus.value)

-- no step has the vector's first constant in its row
abbrev pub IsFreeOfSteps : List (CodeKey × ℕ) → List Step → Type 0
IsFreeOfSteps v steps = (a : ℕ × ℕ) → IsLeastUnit v (Some a) → Each (λ s. s.row ≡ a.0 → ⊥) steps

-- the column was kept, with all steps so far behind it, or its first constant makes the next step
abbrev pub IsColumnSorted : Ring → ℕ → List (CodeKey × ℕ) → List Step → List Step → List Met → List Met → Type 0
IsColumnSorted ring c v steps steps' met met' =
    (IsLeastUnit v None × (steps' ≡ steps) × (met' ≡ set met c (record { column = v; since = length steps; choice = None })))
    ⊎ ((row inverse residue : ℕ) × IsLeastUnit v (Some (row, residue)) × IsCongruent ring.modulus.value (inverse * residue) 1
    × (inverse < ring.modulus.value) × (steps' ≡ steps ++ record { row = row; inverse = inverse; column = v } ∷ [])
    × (met' ≡ set met c (record { column = []; since = 0; choice = Some (row, inverse) })))

-- the places of the rows of these choices, each after those before and after these rows
abbrev pub add_place : Option ℕ → List ℕ → List ℕ
add_place None rows = rows
add_place (Some r) rows = rows ++ r ∷ []

abbrev pub add_choice : Option (ℕ × ℕ) → List ℕ → List ℕ
add_choice None rows = rows
add_choice (Some a) rows = add_place (place_after rows a.0) rows

abbrev pub rows_in_turn : List ℕ → List Met → List ℕ
rows_in_turn rows [] = rows
rows_in_turn rows (m ∷ met) = rows_in_turn (add_choice m.choice rows) met

-- the numbers of the columns that leave, each by how many before it are kept
abbrev pub add_index : Option (ℕ × ℕ) → ℕ → (ℕ → List ℕ) → List ℕ
add_index None kept more = more (kept + 1)
add_index (Some a) kept more = kept ∷ more kept

abbrev pub indices_in_turn : ℕ → List Met → List ℕ
indices_in_turn kept [] = []
indices_in_turn kept (m ∷ met) = add_index m.choice kept (λ k. indices_in_turn k met)

abbrev pub indices_of : ℕ → List (Option (ℕ × ℕ)) → List ℕ
indices_of kept [] = []
indices_of kept (choice ∷ choices) = add_index choice kept (λ k. indices_of k choices)

-- a kept column
abbrev pub add_kept : {X : Type 0} → Option (ℕ × ℕ) → X → List X → List X
add_kept None x xs = x ∷ xs
add_kept (Some a) x xs = xs

-- a kept column is a vector with some of the steps behind it
abbrev pub IsMetOver : Ring → List Step → Met → Type 0
IsMetOver ring steps m = IsVectorOver ring (ring_comparison ring) m.column × (m.since ≤ length steps)

-- what is left of the kept columns after all steps, without these rows
abbrev pub finished_all : (ring : Ring) → List Step → List ℕ → List Met → List (FormalSum (variables ring))
finished_all ring steps rows [] = []
finished_all ring steps rows (m ∷ met) =
    add_kept m.choice (without_all rows (cleared_all ring (drop m.since steps) (sum_of (variables ring) m.column))) (finished_all ring steps rows met)

-- the kept columns after all steps
pub record AreFinished (ring : Ring) (steps : List Step) (rows : List ℕ) (met : List Met) (columns : List (List (CodeKey × ℕ))) : Type 0 where
  pub same : AreSameColumns ring.modulus.value (finished_all ring steps rows met) (sums_of (variables ring) columns)
  pub vectors : AreVectorsOver ring (ring_comparison ring) columns

-- the columns that are left when the constants of these leave, each time the first one
pub record IsPassed (ring : Ring) (columns : List (List (CodeKey × ℕ))) (passed : Passed) : Type 0 where
  pub pivots : List (Pivot (variables ring))
  pub firsts : AreFirstSteps ring (sums_of (variables ring) columns) pivots
  pub same : let n = variables ring in AreSameColumns ring.modulus.value (left_by_all ring pivots (sums_of n columns)) (sums_of n passed.columns)
  pub vectors : AreVectorsOver ring (ring_comparison ring) passed.columns
  pub none : HasNoConstants ring.modulus.value (sums_of (variables ring) passed.columns)
  pub rows : ArePlacesAfter (map (λ s. s.row) pivots) passed.rows
  pub indices : ArePlacesAfter (map (λ s. s.index) pivots) passed.indices
