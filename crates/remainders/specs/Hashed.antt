-- The hashes of the vectors' keys, made when a product of a vector is
use Rattle.std.specs.Prelude.{List, [], get_or, length, ℕ, ◌<◌, ◌≡◌, ◌⊎◌}
use Rattle.term_lists.specs.declared.key.Key.{Key as CodeKey}
use Rattle.row_matrix.specs.Told.{AreHashesOf, HashesShown}

-- for each vector of the list none, or the hashes of its keys
pub record HaveHashes (list : List (List (CodeKey × ℕ))) (hashes : List HashesShown) : Type 0 where
  pub count : length hashes ≡ length list
  pub each :
      (i : ℕ) (h : HashesShown) → i < length list → h ≡ get_or hashes i h
      → (h.hashes ≡ []) ⊎ AreHashesOf h (get_or list i [])

-- the hashes with this number are those of v's keys
pub record HasHashesAt (hashes : List HashesShown) (i : ℕ) (v : List (CodeKey × ℕ)) : Type 0 where
  pub within : i < length hashes
  pub there : (h : HashesShown) → h ≡ get_or hashes i h → AreHashesOf h v
