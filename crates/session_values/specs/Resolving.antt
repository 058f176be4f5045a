-- The canonical resolution of a value (UAG chapter 6, section 1; Eisenbud, section 15.5)
use Rattle.std.specs.Fmt.{decimal}
use Rattle.std.specs.Prelude.{List, [], codes, flat_map, length, ℕ, ◌+◌, ◌++◌, ◌∷◌, ◌≡◌}
use Rattle.term_lists.specs.Rings.{ring_comparison, setting, variables}
use Rattle.term_lists.specs.Vectors.{sums_of}
use Rattle.term_lists.specs.declared.key.Key.{Key}
use Rattle.term_lists.specs.declared.ring.Ring.{Ring}
use Rattle.module_vectors.specs.declared.trail.KeptTrail.{KeptTrail}
use Rattle.groebner_iface.specs.Runs.{IsReducedBasisOf}
use Rattle.poly_text.specs.Texts.{entries_text, names_of}
use Rattle.resolution_laws.specs.Resolutions.{IsCanonical}
use Rattle.resolution_maps.specs.Inducing.{Columns, maps_of}
use Rattle.resolution_maps.specs.Resolved.{AreVectorsThrough, IsResolutionTrail}
use Rattle.session_values.specs.Names.{Value}
use Rattle.session_values.specs.Texts.{heading}

-- the columns of a map with so many rows, each on a line of its own
abbrev pub columns_text : Ring → ℕ → List (List (Key × ℕ)) → List ℕ
columns_text ring rows columns = flat_map (λ c. entries_text (names_of ring) rows c ++ 10 ∷ []) columns

-- how many rows and columns there are
abbrev pub counts_text : (rows columns : ℕ) → List ℕ
counts_text rows columns = decimal rows ++ 32 ∷ (decimal columns ++ 10 ∷ [])

-- the line before a map's columns: its number, and how many rows and columns it has
abbrev pub map_line : (number rows columns : ℕ) → List ℕ
map_line number rows columns = codes "map " ++ (decimal number ++ 32 ∷ counts_text rows columns)

-- a map with its number
abbrev pub map_text : Ring → (number rows : ℕ) → List (List (Key × ℕ)) → List ℕ
map_text ring number rows columns = map_line number rows (length columns) ++ columns_text ring rows columns

-- maps with their numbers, from this one on, the first with so many rows: the rows of a later one are the columns of the one before
abbrev pub maps_text : Ring → (number rows : ℕ) → Columns → List ℕ
maps_text ring number rows [] = []
maps_text ring number rows (F ∷ maps) = map_text ring number rows F ++ maps_text ring (number + 1) (length F) maps

-- the text has the maps of the canonical resolution, its columns by descending terms
pub record IsResolutionText (ring : Ring) (value : Value) (text : List ℕ) : Type 0 where
  pub basis : List (List (Key × ℕ))
  pub reduced : IsReducedBasisOf ring value.rank value.list basis
  pub maps : Columns
  pub canonical :
      let n = variables ring in
      IsCanonical (setting ring n (ring_comparison ring n) value.rank) (sums_of n basis) (maps_of n maps)
  pub vectors : AreVectorsThrough ring [] maps
  pub text_is : text ≡ heading (codes "res") value.name (length maps) ++ maps_text ring 1 value.rank maps

-- a trail that the resolution meets, from the value's reduced basis
abbrev pub IsResolvingTrail : Ring → Value → KeptTrail → Type 0
IsResolvingTrail ring value t =
    (G : List (List (Key × ℕ))) × IsReducedBasisOf ring value.rank value.list G × IsResolutionTrail ring value.rank G t
