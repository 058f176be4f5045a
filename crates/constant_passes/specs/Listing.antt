-- The constants of a column, at the places of their rows
use Rattle.std.specs.Prelude.{List, None, Option, Some, [], ℕ, ◌∷◌}
use Rattle.formal_sums.specs.FormalSums.{FormalSum}
use Rattle.betti_laws.specs.ConstantParts.{constant_part}
use Rattle.term_lists.specs.Vectors.{sum_of}
use Rattle.term_lists.specs.declared.key.Key.{Key as CodeKey}
use Rattle.column_passes.specs.Placing.{without_all}

-- the constants of the terms without the rows that leave in turn
abbrev pub constants_at : (n : ℕ) → List ℕ → List (CodeKey × ℕ) → FormalSum n
constants_at n rows terms = constant_part (without_all rows (sum_of n terms))

-- the entry alone, or none
abbrev pub entry_list : Option (ℕ × ℕ) → List (ℕ × ℕ)
entry_list None = []
entry_list (Some e) = e ∷ []
