-- Rows that claimed their columns: each has its column, or another row has it
use Rattle.std.specs.Prelude.{List, length, map, ℕ, ◌++◌, ◌<◌, ◌≡◌}
use Rattle.std.specs.List.Sorted.{IsPermutation}
use Rattle.formal_sums.specs.FormalSums.{Each}
use Rattle.pivot_table.specs.declared.law.Entry.{Entry as Told}
use Rattle.row_matrix.specs.Rows.{RowShown}
use Rattle.dense_reduction.specs.Pivots.{lead_column}
use Rattle.dense_reduction.specs.Words.{IsTold}
use Rattle.dense_reduction.specs.declared.lefts.Lost.{Lost}

-- the numbers of rows that lost their columns
abbrev pub numbers : List Lost → List ℕ
numbers lost = map (λ (l : Lost). l.number) lost

-- another row has the first column of this one, and whatever the words are at the end, they say so
pub record IsLost (rows : List RowShown) (told : List Told) (l : Lost) : Type 0 where
  pub known : l.number < length rows
  pub other : l.winner ≡ l.number → ⊥
  pub held : IsTold rows told (lead_column rows l.number) l.winner

-- of the rows with these numbers these lost their columns, and all others have theirs
pub record AreClaimed (rows : List RowShown) (mine : List ℕ) (told : List Told) (lost : List Lost) : Type 0 where
  pub won : List ℕ
  pub split : IsPermutation mine (numbers lost ++ won)
  pub named : Each (λ m. IsTold rows told (lead_column rows m) m) won
  pub beaten : Each (IsLost rows told) lost
