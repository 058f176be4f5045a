-- Maps of a resolution that are joined one after another
use Rattle.std.specs.Prelude.{List, [], ℕ, ◌∷◌, ◌≡◌}
use Rattle.term_lists.specs.declared.ring.Ring.{Ring}
use Rattle.resolution_maps.specs.Resolved.{HasRows, degrees_of}
use Rattle.resolution_maps.specs.declared.maps.Map.{Map}

-- the rows of each map are the columns of the one before, those of the first have the degrees `start`, and the columns of the last
-- one the degrees `rows`
abbrev pub AreJoinedTo : Ring → List ℕ → List Map → List ℕ → Type 0
AreJoinedTo ring start [] rows = start ≡ rows
AreJoinedTo ring start (m ∷ maps) rows = HasRows start m × AreJoinedTo ring (degrees_of ring start m.columns) maps rows
