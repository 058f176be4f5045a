-- Hashes of the keys of a list's vectors, which the numbers of a product's keys are found by
use Rattle.std.specs.Prelude.{List, [], get_or, length, ℕ, ◌<◌, ◌≡◌}
use Rattle.term_lists.specs.declared.key.Key.{Key as CodeKey}
use Rattle.row_matrix.specs.Told.{AreHashesOf, HashesShown}

-- the hashes of each column's keys
pub record AreColumnHashes (columns : List (List (CodeKey × ℕ))) (hashes : List HashesShown) : Type 0 where
  pub count : length hashes ≡ length columns
  pub each : (i : ℕ) (h : HashesShown) → i < length columns → h ≡ get_or hashes i h → AreHashesOf h (get_or columns i [])
