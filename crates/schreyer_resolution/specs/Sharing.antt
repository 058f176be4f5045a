-- The columns of the next map by products that they share, with a sum for the number of each key (Faugère 1999, section 2)
use Rattle.std.specs.Prelude.{Bool, List, [], drop, get_or, length, map, take, true, ℕ, ◌++◌, ◌-◌, ◌<◌, ◌∷◌, ◌≡◌, ◌≤◌, ◌⊎◌}
use Rattle.monomials.specs.Exponents.{exponents_of}
use Rattle.formal_sums.specs.Combinations.{combination}
use Rattle.formal_sums.specs.FormalSums.{Each, FormalSum, IsSame, scale}
use Rattle.term_lists.specs.Rings.{variables}
use Rattle.term_lists.specs.Vectors.{IsMonomialOver, IsVectorOver, key_of, sum_of, sums_of}
use Rattle.term_lists.specs.declared.key.Key.{Key as CodeKey}
use Rattle.term_lists.specs.declared.ring.Ring.{Ring}
use Rattle.monomial_orders.specs.Kept.{Monomial}
use Rattle.vector_division.specs.Divisions.{IsFreeOfLeads, IsUncovered}
use Rattle.vector_division.specs.Reductions.{cofactors_of}
use Rattle.vector_division.specs.declared.reduction.ScaledProduct.{ScaledProduct}
use Rattle.row_matrix.specs.Hashes.{IsNumbered, key_product}
use Rattle.row_matrix.specs.Rows.{AreKeys, Entry, column_key}
use Rattle.row_matrix.specs.Told.{AreToldWith}
use Rattle.resolution_maps.specs.Inducing.{Tower, tower_comparison}
use Rattle.numbered_sums.specs.KeySums.{AreSmall, AreTouched, numbered_sum}
use Rattle.numbered_sums.specs.ProductEntries.{multiple_at}
use Rattle.numbered_sums.specs.declared.work.Work.{Work}
use Rattle.schreyer_resolution.specs.Columns.{negated_term}
use Rattle.schreyer_resolution.specs.FreeKeys.{AreFreeNumbers, HasMore, IsProductUpToFree, IsUpToFree}
use Rattle.schreyer_resolution.specs.Steps.{IsLastDivisor}
use Rattle.schreyer_resolution.specs.Turns.{quotients_at}
use Rattle.schreyer_resolution.specs.declared.products.Product.{Product}
use Rattle.schreyer_resolution.specs.declared.products.Products.{Products}
use Rattle.schreyer_resolution.specs.declared.products.Stretch.{Stretch}

-- the entries that stand there
abbrev pub row_at : List Entry → Stretch → List Entry
row_at entries s = take (s.to - s.from) (drop s.from entries)

-- there stand the entries of the product of this monomial and column, by numbers of these keys, but for terms whose keys no lead divides
pub record IsRowOf (ring : Ring) (columns : List (List (CodeKey × ℕ))) (keys : List CodeKey) (entries : List Entry) (index : ℕ) (m : Monomial)
    (s : Stretch) : Type 0 where
  pub from : s.from ≤ s.to
  pub inside : s.to ≤ length entries
  pub row : IsProductUpToFree ring columns keys index m (row_at entries s)

-- a product of the last column that divides its lead
pub record IsFoundProduct (ring : Ring) (columns : List (List (CodeKey × ℕ))) (s : Product) : Type 0 where
  pub index : s.index < length columns
  pub weighed : IsMonomialOver ring s.monomial
  pub last :
      let n = variables ring in
      IsLastDivisor (sums_of n columns) (s.index, exponents_of n s.monomial.exponents)

-- such a product, and its entries stand there
pub record IsLastProduct (ring : Ring) (columns : List (List (CodeKey × ℕ))) (keys : List CodeKey) (entries : List Entry) (s : Product) :
    Type 0 where
  pub found : IsFoundProduct ring columns s
  pub row : IsRowOf ring columns keys entries s.index s.monomial s.stretch

-- the products of the list are such
abbrev pub AreLastProducts : Ring → List (List (CodeKey × ℕ)) → Products → Type 0
AreLastProducts ring columns x = Each (IsLastProduct ring columns x.numbers x.entries.items) x.list.items

-- each number has a flag, and no lead divides the key where that is set; what stands in the list are products of last columns
pub record ArePartProducts (ring : Ring) (columns : List (List (CodeKey × ℕ))) (x : Products) : Type 0 where
  pub keys :
      let n = variables ring in
      AreKeys n ring.weights x.numbers
  pub whole : length x.free.items ≡ length x.numbers
  pub free :
      let n = variables ring in
      AreFreeNumbers n columns x.numbers x.free.items
  pub found : Each (IsFoundProduct ring columns) x.list.items

-- numbers, entries and list have what they had, and behind it others
pub record HaveMore (old new : Products) : Type 0 where
  pub numbers : HasMore old.numbers new.numbers
  pub entries : HasMore old.entries.items new.entries.items
  pub list : HasMore old.list.items new.list.items

-- the product of t and the term's key has a number, and its entry stands behind the others; or no lead divides it, and none does
pub record IsEntryPushed (ring : Ring) (columns : List (List (CodeKey × ℕ))) (t : Monomial) (u : CodeKey × ℕ) (old new : Products) :
    Type 0 where
  pub number : ℕ
  pub numbered : IsNumbered old.numbers new.numbers (key_product t u.0) number
  pub list : HasMore old.list.items new.list.items
  pub entries :
      let n = variables ring in
      (new.entries.items ≡ old.entries.items ++ (number, u.1) ∷ [])
      ⊎ ((new.entries.items ≡ old.entries.items) × IsUncovered (sums_of n columns) (key_of n (key_product t u.0)))

-- a quotient of the last column that divides its product's lead
pub record IsLastQuotient (ring : Ring) (columns : List (List (CodeKey × ℕ))) (q : ScaledProduct) : Type 0 where
  pub index : q.index < length columns
  pub weighed : IsMonomialOver ring q.monomial
  pub nonzero : 0 < q.residue
  pub reduced : q.residue < ring.modulus.value
  pub last :
      let n = variables ring in
      IsLastDivisor (sums_of n columns) (q.index, exponents_of n q.monomial.exponents)

-- such quotients were taken away of the key's product, and the sums are left, with the numbers that were touched, and terms whose
-- keys no lead divides
pub record AreTakenQuotients (ring : Ring) (columns : List (List (CodeKey × ℕ))) (keys : List CodeKey) (k : CodeKey) (qs : List ScaledProduct)
    (sums touched : List ℕ) : Type 0 where
  pub quotients : Each (IsLastQuotient ring columns) qs
  pub count : length sums ≡ length keys
  pub small : AreSmall sums
  pub marked : AreTouched touched sums
  pub rest : FormalSum (variables ring)
  pub free :
      let n = variables ring in
      IsFreeOfLeads (sums_of n columns) rest
  pub sum :
      let n = variables ring in
      IsSame ring.modulus.value (multiple_at ring columns k.position k.monomial)
      ((combination (sums_of n columns) (cofactors_of n qs) ++ numbered_sum (column_key n keys) 0 sums) ++ rest)

-- the quotients by these products at such places were taken away of the key's product, and the sums at work are left
abbrev pub AreTakenAway : Ring → List (List (CodeKey × ℕ)) → CodeKey → Products → List (ℕ × ℕ) → Work → Type 0
AreTakenAway ring columns k x taken work =
    AreTakenQuotients ring columns x.numbers k (quotients_at x.list.items taken) work.sums.items work.touched.items

-- the key's product is the sum of such quotients' products
pub record AreLastQuotients (ring : Ring) (columns : List (List (CodeKey × ℕ))) (k : CodeKey) (qs : List ScaledProduct) : Type 0 where
  pub each : Each (IsLastQuotient ring columns) qs
  pub sum :
      let n = variables ring in
      IsSame ring.modulus.value (multiple_at ring columns k.position k.monomial) (combination (sums_of n columns) (cofactors_of n qs))

-- behind `from` stand the entries of the product of t and the first k terms; `told` says that hashes tell such products
pub record IsRowUnderway (ring : Ring) (columns : List (List (CodeKey × ℕ))) (t : Monomial) (terms : List (CodeKey × ℕ)) (positions degree : ℕ)
    (told : Bool) (from k : ℕ) (start x : Products) : Type 0 where
  pub part : ArePartProducts ring columns x
  pub more : HaveMore start x
  pub tells : told ≡ true → AreToldWith x.numbers t positions degree
  pub row :
      let n = variables ring in
      IsUpToFree ring columns x.numbers (scale 1 (exponents_of n t.exponents) (sum_of n (take k terms))) (drop from x.entries.items)

-- where no entries stand
abbrev pub no_stretch : Stretch
no_stretch = record { from = 0; to = 0 }

-- so many rows, each of the product of its key's monomial and column
pub record AreStarts (ring : Ring) (columns : List (List (CodeKey × ℕ))) (numbers : List CodeKey) (entries : List Entry) (keys : List CodeKey)
    (count : ℕ) (rows : List Stretch) : Type 0 where
  pub sized : length rows ≡ count
  pub each :
      (c : ℕ) (k : CodeKey) → c < count → k ≡ get_or keys c k
      → IsRowOf ring columns numbers entries k.position k.monomial (get_or rows c no_stretch)

-- the vector has 1 at the key and behind it such quotients of the key's product with the other sign, in the order above
pub record IsColumnMade (ring : Ring) (columns : List (List (CodeKey × ℕ))) (t : Tower) (k : CodeKey) (v : List (CodeKey × ℕ)) : Type 0 where
  pub quotients : List ScaledProduct
  pub of_product : AreLastQuotients ring columns k quotients
  pub is : v ≡ (k, 1) ∷ map (negated_term ring.modulus.value) quotients
  pub vector : IsVectorOver ring (tower_comparison t) v

-- so many vectors, made so for the first keys
pub record AreColumnsMade (ring : Ring) (columns : List (List (CodeKey × ℕ))) (t : Tower) (keys : List CodeKey) (count : ℕ)
    (next : List (List (CodeKey × ℕ))) : Type 0 where
  pub sized : length next ≡ count
  pub each : (c : ℕ) (k : CodeKey) → c < count → k ≡ get_or keys c k → IsColumnMade ring columns t k (get_or next c [])
