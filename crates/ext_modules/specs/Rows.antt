-- Rows of a map, by the terms of its columns
use Rattle.std.specs.Prelude.{List, [], cond, get_or, length, nat_eq, suc, ℕ, ◌++◌, ◌<◌, ◌∷◌, ◌≡◌}
use Rattle.term_lists.specs.declared.key.Key.{Key as CodeKey}

-- the terms at position i, moved to position j
abbrev pub entries_of : (i j : ℕ) → List (CodeKey × ℕ) → List (CodeKey × ℕ)
entries_of i j [] = []
entries_of i j (t ∷ terms) =
    cond (nat_eq t.0.position i) ((record { position = j; monomial = t.0.monomial }, t.1) ∷ entries_of i j terms) (entries_of i j terms)

-- row i of these columns, the first at position j
abbrev pub row_of : (i j : ℕ) → List (List (CodeKey × ℕ)) → List (CodeKey × ℕ)
row_of i j [] = []
row_of i j (c ∷ columns) = entries_of i j c ++ row_of i (suc j) columns

-- the terms of column j have been put, each behind those of its row
pub record ArePut (j : ℕ) (terms : List (CodeKey × ℕ)) (old new : List (List (CodeKey × ℕ))) : Type 0 where
  pub count : length new ≡ length old
  pub each : (i : ℕ) → i < length old → get_or new i [] ≡ get_or old i [] ++ entries_of i j terms

-- so many rows, of these columns
pub record AreRowsOf (count : ℕ) (columns rows : List (List (CodeKey × ℕ))) : Type 0 where
  pub count_is : length rows ≡ count
  pub each : (i : ℕ) → i < count → get_or rows i [] ≡ row_of i 0 columns
