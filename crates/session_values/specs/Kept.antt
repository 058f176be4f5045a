-- What the code keeps of values
use Rattle.std.specs.Prelude.{IfSome, List, None, Option, Some, [], is_some, length, string_bytes, ℕ, ◌∷◌, ◌≡◌, ◌≤◌}
use Rattle.formal_sums.specs.FormalSums.{Each}
use Rattle.term_lists.specs.Rings.{ring_comparison}
use Rattle.term_lists.specs.Vectors.{AreVectorsOver, HasPositions, IsVectorOver}
use Rattle.term_lists.specs.declared.key.Key.{Key}
use Rattle.term_lists.specs.declared.ring.Ring.{Ring}
use Rattle.groebner_iface.specs.Runs.{IsReducedBasisOf}
use Rattle.script_parse.specs.declared.named.NameInfo.{NameInfo}
use Rattle.session_values.specs.Names.{Value}
use Rattle.session_values.specs.Held.{StoredShown}

-- the rank of a value: from 1 to 64
abbrev pub IsValueRank : ℕ → Type 0
IsValueRank rank = (1 ≤ rank) × (rank ≤ 64)

-- the list is one of vectors of this rank, and what is kept as its reduced basis is that
pub record IsSound (ring : Ring) (rank : ℕ) (s : StoredShown) : Type 0 where
  pub ranked : IsValueRank rank
  pub vectors : AreVectorsOver ring (ring_comparison ring) s.list
  pub positions : Each (HasPositions rank) s.list
  pub basis : IfSome s.basis (IsReducedBasisOf ring rank s.list)

-- name, list and mark of a value as one
abbrev pub value_of : NameInfo → StoredShown → Value
value_of i s = record { name = string_bytes i.name; rank = i.rank; list = s.list; kept = is_some s.basis }

-- the values: their names and their lists stand beside one another
abbrev pub values_of : List NameInfo → List StoredShown → List Value
values_of (i ∷ infos) (s ∷ stored) = value_of i s ∷ values_of infos stored
values_of _ _ = []

-- each value is sound, and its length is told
abbrev pub AreSound : Ring → List NameInfo → List StoredShown → Type 0
AreSound ring [] [] = Unit {0}
AreSound ring (i ∷ infos) (s ∷ stored) = IsSound ring i.rank s × (i.length ≡ length s.list) × AreSound ring infos stored
AreSound ring _ _ = ⊥

-- the values are sound over the ring, and where none is stated there are none
abbrev pub AreKept : Option Ring → List NameInfo → List StoredShown → Type 0
AreKept None infos stored = (infos ≡ []) × (stored ≡ [])
AreKept (Some ring) infos stored = AreSound ring infos stored

-- a list of vectors over the ring, of this rank
abbrev pub IsListOver : Ring → ℕ → List (List (Key × ℕ)) → Type 0
IsListOver ring rank list = AreVectorsOver ring (ring_comparison ring) list × Each (HasPositions rank) list

-- a polynomial over the ring
abbrev pub IsPolynomialOver : Ring → List (Key × ℕ) → Type 0
IsPolynomialOver ring f = IsVectorOver ring (ring_comparison ring) f × HasPositions 1 f
