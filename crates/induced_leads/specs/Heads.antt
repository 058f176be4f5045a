-- What the positions of the cofactors of a map's columns are compared by
use Rattle.std.specs.Prelude.{List, [], get_or, length, slice_index, ℕ, ◌++◌, ◌+◌, ◌<◌, ◌∷◌, ◌^◌, ◌≡◌, ◌≤◌}
use Rattle.monomials.specs.Exponents.{exponents_of, unit}
use Rattle.monomials.specs.Weights.{weighted_degree}
use Rattle.bases.specs.Leads.{leads}
use Rattle.term_lists.specs.Vectors.{sums_of}
use Rattle.term_lists.specs.declared.key.Key.{Key as CodeKey}
use Rattle.resolution_maps.specs.Inducing.{Columns, maps_of}
use Rattle.induced_leads.specs.Ways.{bottom, way}
use Rattle.induced_leads.specs.declared.head.Head.{Head}
use Rattle.induced_leads.specs.declared.head.Heads.{Heads}

-- the exponents and the degree leave room for one more sum
pub record IsLow (exponents : List ℕ) (degree : ℕ) : Type 0 where
  pub each : (k : ℕ) → slice_index exponents k < 2 ^ 48
  pub small : degree < 2 ^ 100

-- the exponents of a product: those of xs, each with that of es where there is one
abbrev pub summed : List ℕ → List ℕ → List ℕ
summed [] es = []
summed (x ∷ xs) [] = x ∷ summed xs []
summed (x ∷ xs) (e ∷ es) = (x + e) ∷ summed xs es

-- n exponents, and n others of which each leaves room for one more sum
pub record AreSummands (n : ℕ) (xs es : List ℕ) : Type 0 where
  pub count : length xs ≡ n
  pub others : length es ≡ n
  pub low : (k : ℕ) → slice_index es k < 2 ^ 48

-- the exponents of h are n, and its degree is theirs by the weights; both leave room for one more sum
pub record IsHeadOver (n : ℕ) (ws : List ℕ) (h : Head) : Type 0 where
  pub count : length h.exponents.items ≡ n
  pub degree : h.degree ≡ weighted_degree ws (exponents_of n h.exponents.items)
  pub low : IsLow h.exponents.items h.degree

-- h tells where the leads of the maps take 1 at position i
pub record IsHead (n : ℕ) (ws : List ℕ) (maps : Columns) (i : ℕ) (h : Head) : Type 0 where
  pub at : bottom (maps_of n maps) (i, unit n) ≡ (h.position, exponents_of n h.exponents.items)
  pub way_is : way (maps_of n maps) i ≡ h.way.items ++ i ∷ []
  pub over : IsHeadOver n ws h

-- the heads of all positions: of those that have a column, and of the others
pub record AreHeads (n : ℕ) (ws : List ℕ) (maps : Columns) (hs : Heads) : Type 0 where
  pub each : (i : ℕ) (h : Head) → i < length hs.each.items → h ≡ get_or hs.each.items i h → IsHead n ws maps i h
  pub others : (i : ℕ) → length hs.each.items ≤ i → IsHead n ws maps i hs.past

-- n exponents that are sums, each of those of xs and es at its place
pub record AreExponentSums (n : ℕ) (xs es gs : List ℕ) : Type 0 where
  pub count : length gs ≡ n
  pub each : (k : ℕ) → k < n → slice_index gs k ≡ slice_index xs k + slice_index es k

-- the lead of member i of F is at this position, with these exponents
abbrev pub IsLeadOf : ℕ → List (List (CodeKey × ℕ)) → ℕ → ℕ → List ℕ → Type 0
IsLeadOf n F i position exponents = leads (sums_of n F) i ≡ (position, exponents_of n exponents)
