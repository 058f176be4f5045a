-- A column of the next map, made by a division
use Rattle.std.specs.Prelude.{Bool, IsTrue, List, [], get_or, length, ⊤, ℕ, ◌%◌, ◌-◌, ◌<◌, ◌≡◌}
use Rattle.std.specs.declared.cmp.Ordering.{Ordering}
use Rattle.monomials.specs.Exponents.{exponents_of, lcm, quotient}
use Rattle.formal_sums.specs.FormalSums.{Each, FormalSum, Key, scale}
use Rattle.orders.specs.KeyOrders.{induced}
use Rattle.bases.specs.Leads.{leads}
use Rattle.monomial_orders.specs.Kept.{Monomial}
use Rattle.term_lists.specs.Rings.{setting, variables}
use Rattle.term_lists.specs.Vectors.{AreVectorsOver, HasPositions, IsVectorOver, StandsFor, key_of, sum_of, sums_of}
use Rattle.term_lists.specs.declared.key.Key.{Key as CodeKey}
use Rattle.term_lists.specs.declared.ring.Ring.{Ring}
use Rattle.module_vectors.specs.Trails.{IsTrail, lead_at}
use Rattle.module_vectors.specs.declared.trail.KeptTrail.{KeptTrail}
use Rattle.module_vectors.specs.declared.trail.TrailStart.TheVariants.{Pair}
use Rattle.module_vectors.specs.declared.trail.WorkStop.{WorkStop}
use Rattle.module_vectors.specs.declared.trail.WorkStop.TheVariants.{Memory, Degree}
use Rattle.vector_division.specs.Divisions.{IsUncovered}
use Rattle.vector_division.specs.Runs.{IsSplit, Supports}
use Rattle.vector_division.specs.declared.reduction.ScaledProduct.{ScaledProduct}
use Rattle.resolution_maps.specs.Inducing.{Columns, Tower, tower_comparison}
use Rattle.schreyer_resolution.specs.Steps.{IsColumn, IsLastDivisor}

-- the tower's order is the one that the columns' leads induce above this order
abbrev pub IsAbove : Ring → ((n : ℕ) → Key n → Key n → Ordering) → List (List (CodeKey × ℕ)) → Tower → Type 0
IsAbove ring compare columns t = (n : ℕ) → tower_comparison t n ≡ induced (compare n) (leads (sums_of n columns))

-- v is the product of the key's monomial and its column
pub record IsProductOf (ring : Ring) (compare : (n : ℕ) → Key n → Key n → Ordering) (columns : List (List (CodeKey × ℕ)))
    (k : CodeKey) (v : List (CodeKey × ℕ)) : Type 0 where
  pub vector : IsVectorOver ring compare v
  pub is :
      let n = variables ring in
      StandsFor ring v (scale 1 (exponents_of n k.monomial.exponents) (sum_of n (get_or columns k.position [])))

-- quotients of this product were taken away, each of the last column that could be; this is left of it in these lists, and
-- terms were dropped that no lead divides, while what is left has none
pub record IsColumnUnderway (ring : Ring) (compare : (n : ℕ) → Key n → Key n → Ordering) (columns : List (List (CodeKey × ℕ))) (k : CodeKey)
    (qs : List ScaledProduct) (runs : List (List (CodeKey × ℕ))) (left : FormalSum (variables ring)) : Type 0 where
  pub product : List (CodeKey × ℕ)
  pub of_column : IsProductOf ring compare columns k product
  pub dropped : List (CodeKey × ℕ)
  pub progress :
      let n = variables ring in
      IsSplit n ring.weights ring.modulus.value (compare n) product columns qs dropped runs left
  pub covered :
      let n = variables ring in
      Supports ring.modulus.value left (λ k. IsUncovered (sums_of n columns) k → ⊥)
  pub last :
      let n = variables ring in
      Each (λ q. IsLastDivisor (sums_of n columns) (q.index, exponents_of n q.monomial.exponents)) qs

-- these quotients of the key's product, each of the last column that could be taken, leave nothing
pub record IsProductDivided (ring : Ring) (compare : (n : ℕ) → Key n → Key n → Ordering) (columns : List (List (CodeKey × ℕ))) (k : CodeKey)
    (qs : List ScaledProduct) : Type 0 where
  pub product : List (CodeKey × ℕ)
  pub of_column : IsProductOf ring compare columns k product
  pub progress :
      let n = variables ring in
      IsSplit n ring.weights ring.modulus.value (compare n) product columns qs [] [] []
  pub last :
      let n = variables ring in
      Each (λ q. IsLastDivisor (sums_of n columns) (q.index, exponents_of n q.monomial.exponents)) qs

-- the term of a column that a quotient's term is
abbrev pub negated_term : ℕ → ScaledProduct → CodeKey × ℕ
negated_term p q = (record { position = q.index; monomial = q.monomial }, (p - q.residue) % p)

-- the vector is the column with this lead
abbrev pub IsColumnOf : Ring → ((n : ℕ) → Key n → Key n → Ordering) → List (List (CodeKey × ℕ)) → CodeKey → List (CodeKey × ℕ) → Type 0
IsColumnOf ring compare columns k v =
    let n = variables ring in
    IsColumn (setting ring n (compare n) 0) (sums_of n columns) (key_of n k) (sum_of n v)

-- the first k columns of the next map, at the keys in their order: vectors in the order above, each the column with its lead
pub record AreColumnsTo (ring : Ring) (compare : (n : ℕ) → Key n → Key n → Ordering) (columns : List (List (CodeKey × ℕ)))
    (t : Tower) (keys : List CodeKey) (k : ℕ) (next : List (List (CodeKey × ℕ))) : Type 0 where
  pub count : length next ≡ k
  pub vectors : AreVectorsOver ring (tower_comparison t) next
  pub ranked : Each (HasPositions (length columns)) next
  pub each : (c : ℕ) (key : CodeKey) → c < k → key ≡ get_or keys c key → IsColumnOf ring compare columns key (get_or next c [])

-- j is a later column at the same position, and the key's monomial takes its column's lead to the lcm of the two
pub record IsPartner (n : ℕ) (columns : List (List (CodeKey × ℕ))) (k : CodeKey) (j : ℕ) : Type 0 where
  pub later : k.position < j
  pub inside : j < length columns
  pub position : (lead_at n columns k.position).0 ≡ (lead_at n columns j).0
  pub is :
      exponents_of n k.monomial.exponents
      ≡ quotient (lcm (lead_at n columns k.position).1 (lead_at n columns j).1) (lead_at n columns k.position).1

-- whether the keys stand at one position, and this is the monomial of their pair
pub record IsWhetherPair (n : ℕ) (a b : CodeKey) (m : Monomial) (answer : Bool) : Type 0 where
  pub position : IsTrue answer → a.position ≡ b.position
  pub is :
      IsTrue answer
      → exponents_of n m.exponents
      ≡ quotient (lcm (exponents_of n a.monomial.exponents) (exponents_of n b.monomial.exponents)) (exponents_of n a.monomial.exponents)
  pub other :
      (IsTrue answer → ⊥) → a.position ≡ b.position
      → exponents_of n m.exponents
      ≡ quotient (lcm (exponents_of n a.monomial.exponents) (exponents_of n b.monomial.exponents)) (exponents_of n a.monomial.exponents)
      → ⊥

-- the trail is over this ring and of no run; its members are these columns, above those, and it begins with a pair of them
pub record IsColumnTrail (ring : Ring) (below : Columns) (columns : List (List (CodeKey × ℕ))) (t : KeptTrail) : Type 0 where
  pub trail : IsTrail t
  pub over : t.ring ≡ ring
  pub rank_none : t.rank ≡ 0
  pub generators : t.generators ≡ []
  pub start : (i : ℕ) × (j : ℕ) × (t.start ≡ Pair i j)
  pub members : t.members ≡ columns
  pub below_is : t.below.items ≡ below

-- Degree comes with such a trail alone
abbrev pub ColumnStops : Ring → Columns → List (List (CodeKey × ℕ)) → WorkStop → Type 0
ColumnStops ring below columns Memory = ⊤
ColumnStops ring below columns (Degree t) = IsColumnTrail ring below columns t
