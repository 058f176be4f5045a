-- The orders that the columns of maps induce, one above another (UAG chapter 5, section 3)
use Rattle.std.specs.Prelude.{List, [], map, ℕ, ◌∷◌}
use Rattle.std.specs.declared.cmp.Ordering.{Ordering}
use Rattle.formal_sums.specs.FormalSums.{FormalSum, Key}
use Rattle.orders.specs.KeyOrders.{induced}
use Rattle.bases.specs.Leads.{leads}
use Rattle.term_lists.specs.Rings.{ring_comparison}
use Rattle.term_lists.specs.Vectors.{sums_of}
use Rattle.term_lists.specs.declared.key.Key.{Key as CodeKey}
use Rattle.term_lists.specs.declared.ring.Ring.{Ring}

-- the columns of maps, the first map first
abbrev pub Columns : Type 0
Columns = List (List (List (CodeKey × ℕ)))

-- the maps' columns as formal sums
abbrev pub maps_of : (n : ℕ) → Columns → List (List (FormalSum n))
maps_of n maps = map (λ F. sums_of n F) maps

-- the order of the cofactors of the last map's columns: each map induces one above the order of its columns
abbrev pub induced_through : {n : ℕ} → (Key n → Key n → Ordering) → List (List (FormalSum n)) → Key n → Key n → Ordering
induced_through compare [] = compare
induced_through compare (F ∷ maps) = induced_through (induced compare (leads F)) maps

-- a ring and maps over it
pub record Tower : Type 0 where
  pub ring : Ring
  pub maps : Columns

-- the tower of these maps
abbrev pub over : Ring → Columns → Tower
over ring maps = record { ring = ring; maps = maps }

-- the order of the cofactors of the last map's columns, over the ring's own
abbrev pub tower_comparison : Tower → (n : ℕ) → Key n → Key n → Ordering
tower_comparison t n = induced_through (ring_comparison t.ring n) (maps_of n t.maps)
