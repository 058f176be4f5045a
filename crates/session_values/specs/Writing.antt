-- The maps of a resolution as they are written
use Rattle.std.specs.Prelude.{List, [], length, ℕ, ◌+◌, ◌++◌, ◌∷◌}
use Rattle.formal_sums.specs.FormalSums.{Each}
use Rattle.term_lists.specs.Rings.{variables}
use Rattle.term_lists.specs.Vectors.{HasVariables}
use Rattle.term_lists.specs.declared.ring.Ring.{Ring}
use Rattle.resolution_maps.specs.declared.maps.Map.{Map}
use Rattle.session_values.specs.Resolving.{map_text}
use Rattle.session_values.specs.Texts.{heading}

-- the columns of the map are over the ring's variables
abbrev pub AreOverVariables : Ring → Map → Type 0
AreOverVariables ring m = Each (λ v. Each (HasVariables (variables ring)) v) m.columns

-- maps with their numbers, from this one on
abbrev pub written_maps : Ring → ℕ → List Map → List ℕ
written_maps ring number [] = []
written_maps ring number (m ∷ maps) = map_text ring number m.rows m.columns ++ written_maps ring (number + 1) maps

-- the same with the heading
abbrev pub resolution_written : Ring → (word name : List ℕ) → List Map → List ℕ
resolution_written ring word name maps = heading word name (length maps) ++ written_maps ring 1 maps
