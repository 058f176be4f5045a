-- What the calls for values at places say
use Rattle.std.specs.Prelude.{IsSome, List, false, get_or, slice_set, ℕ, ◌≡◌, ◌⊎◌}
use Rattle.term_lists.specs.declared.key.Key.{Key}
use Rattle.term_lists.specs.declared.ring.Ring.{Ring}
use Rattle.script_parse.specs.declared.named.NameInfo.{NameInfo}
use Rattle.session_values.specs.Kept.{value_of}
use Rattle.session_values.specs.Names.{Value}
use Rattle.session_values.specs.Held.{StoredShown}

-- the basis of the value at this place is kept now; the other values are as before
pub record Keeps (before : List StoredShown) (i : ℕ) (after : List StoredShown) : Type 0 where
  pub item : StoredShown
  pub written : after ≡ slice_set before i item
  pub some : IsSome item.basis
  pub list : (e : StoredShown) → item.list ≡ (get_or before i e).list

-- the run for the reduced basis of a value over this ring, if it is not yet kept
abbrev pub IsRunToKeep : Ring → Value → Ring → ℕ → List (List (Key × ℕ)) → Type 0
IsRunToKeep over value ring rank list = (ring ≡ over) × (value.kept ≡ false) × (rank ≡ value.rank) × (list ≡ value.list)

-- the same of the value at a place; past the end these stand for its name and its list
abbrev pub IsRunAt : Ring → List NameInfo → List StoredShown → ℕ → NameInfo → StoredShown → Ring → ℕ → List (List (Key × ℕ)) → Type 0
IsRunAt over infos stored i d e ring rank list = IsRunToKeep over (value_of (get_or infos i d) (get_or stored i e)) ring rank list

-- the same of one of two places, of the second once the basis of the first is kept
abbrev pub IsRunAtEither : Ring → List NameInfo → List StoredShown → ℕ × ℕ → NameInfo → StoredShown → Ring → ℕ → List (List (Key × ℕ)) → Type 0
IsRunAtEither over infos stored places d e ring rank list =
    IsRunAt over infos stored places.0 d e ring rank list
    ⊎ ((middle : List StoredShown) × Keeps stored places.0 middle × IsRunAt over infos middle places.1 d e ring rank list)
