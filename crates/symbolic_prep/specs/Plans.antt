-- Products of members as rows over numbers of keys
use Rattle.std.specs.Prelude.{Bool, List, [], false, get_or, length, true, ℕ, ◌++◌, ◌<◌, ◌∷◌, ◌≡◌, ◌⊎◌}
use Rattle.monomials.specs.Exponents.{exponents_of, quotient}
use Rattle.formal_sums.specs.FormalSums.{FormalSum, scale}
use Rattle.module_vectors.specs.Trails.{KeptProduct, lead_at, kept_product_lead, kept_at}
use Rattle.monomial_orders.specs.Kept.{IsWeighed}
use Rattle.term_lists.specs.Vectors.{key_of, sum_of, sums_of}
use Rattle.bases.specs.Representations.{key_lcm}
use Rattle.pair_criteria.specs.declared.pair.Pair.{Pair as CodePair}
use Rattle.vector_division.specs.Divisions.{IsUncovered}
use Rattle.term_lists.specs.declared.key.Key.{Key as CodeKey}
use Rattle.row_matrix.specs.Naming.{AreNamed, NamesNumber}
use Rattle.row_matrix.specs.Rows.{AreKeys, RowShown, column_key, first_column, shown_row_at}

-- the number of the first key of the row with this number
abbrev pub lead_number : List RowShown → ℕ → ℕ
lead_number rows i = first_column (shown_row_at rows i).entries

-- the product of a monomial and a member
abbrev pub product_sum : (n : ℕ) → List (List (CodeKey × ℕ)) → KeptProduct → FormalSum n
product_sum n list s = scale 1 (exponents_of n s.1.exponents) (sum_of n (get_or list s.0 []))

-- a monomial in n variables of these weights and a member that is not zero
pub record IsMemberProduct (n : ℕ) (ws : List ℕ) (list : List (List (CodeKey × ℕ))) (s : KeptProduct) : Type 0 where
  pub member : s.0 < length list
  pub some : 0 < length (get_or list s.0 [])
  pub weighed : IsWeighed n ws s.1

-- row i is this product
pub record IsPlannedRow (n : ℕ) (ws : List ℕ) (list : List (List (CodeKey × ℕ))) (keys : List CodeKey) (i : ℕ) (r : RowShown) (s : KeptProduct) : Type 0 where
  pub product : IsMemberProduct n ws list s
  pub named : AreNamed n keys r.entries (product_sum n list s)
  pub sources : r.sources ≡ (i, 1) ∷ []

-- the rows are the products, whose keys these are; a key is marked exactly where it is the lead of a row
pub record IsPlan (n : ℕ) (ws : List ℕ) (list : List (List (CodeKey × ℕ))) (keys : List CodeKey) (rows : List RowShown)
    (products : List KeptProduct) (led : List Bool) : Type 0 where
  pub count : length rows ≡ length products
  pub monomials : AreKeys n ws keys
  pub each : (i : ℕ) → i < length rows → IsPlannedRow n ws list keys i (shown_row_at rows i) (kept_at products i)
  pub met : (c : ℕ) → c < length keys → (i : ℕ) × (i < length rows) × NamesNumber (shown_row_at rows i).entries c
  pub marked : (c : ℕ) → get_or led c false ≡ true → (i : ℕ) × (i < length rows) × (lead_number rows i ≡ c)
  pub leads : (i : ℕ) → i < length rows → get_or led (lead_number rows i) false ≡ true

-- one more product; what was marked is marked, and its lead
pub record IsMorePlanned (n : ℕ) (ws : List ℕ) (list : List (List (CodeKey × ℕ))) (old new : List CodeKey) (rows rows' : List RowShown)
    (products products' : List KeptProduct) (led led' : List Bool) (s : KeptProduct) : Type 0 where
  pub plan : IsPlan n ws list new rows' products' led'
  pub added : List CodeKey
  pub grown : new ≡ old ++ added
  pub products_more : products' ≡ products ++ s ∷ []
  pub rows_more :
      (r : RowShown) × (rows' ≡ rows ++ r ∷ []) × (column_key n new (first_column r.entries) ≡ kept_product_lead n list s)
      × (get_or led' (first_column r.entries) false ≡ true)
  pub kept : (c : ℕ) → get_or led c false ≡ true → get_or led' c false ≡ true

-- a plan to which products were added: what was there is there, and what was marked is marked
pub record IsLaterPlan (n : ℕ) (ws : List ℕ) (list : List (List (CodeKey × ℕ))) (keys : List CodeKey) (products : List KeptProduct) (led : List Bool)
    (keys' : List CodeKey) (rows' : List RowShown) (products' : List KeptProduct) (led' : List Bool) : Type 0 where
  pub plan : IsPlan n ws list keys' rows' products' led'
  pub added : List CodeKey
  pub grown : keys' ≡ keys ++ added
  pub more : List KeptProduct
  pub products_more : products' ≡ products ++ more
  pub kept : (c : ℕ) → get_or led c false ≡ true → get_or led' c false ≡ true

-- each key before this number is the lead of a row, or no lead of the list divides it
abbrev pub AreClosed : (n : ℕ) → List (List (CodeKey × ℕ)) → List CodeKey → List Bool → ℕ → Type 0
AreClosed n list keys led cursor =
    (c : ℕ) → c < cursor → c < length keys → (get_or led c false ≡ true) ⊎ IsUncovered (sums_of n list) (column_key n keys c)

-- the product with this number takes the lead of the member to the lcm
pub record IsTopProduct (n : ℕ) (list : List (List (CodeKey × ℕ))) (products : List KeptProduct) (lcm : CodeKey) (member number : ℕ) : Type 0 where
  pub there : number < length products
  pub of : (kept_at products number).0 ≡ member
  pub exponents : exponents_of n (kept_at products number).1.exponents ≡ quotient (exponents_of n lcm.monomial.exponents) (lead_at n list member).1

-- both products of the pair's S-vector are there
pub record HasPairProducts (n : ℕ) (list : List (List (CodeKey × ℕ))) (products : List KeptProduct) (x : CodePair) : Type 0 where
  pub left : ℕ
  pub right : ℕ
  pub first : IsTopProduct n list products x.lcm x.i left
  pub second : IsTopProduct n list products x.lcm x.j right

-- the pair is of two members that are not zero, and has the least common multiple of their leads
pub record IsMemberPair (n : ℕ) (ws : List ℕ) (list : List (List (CodeKey × ℕ))) (x : CodePair) : Type 0 where
  pub left : x.i < length list
  pub right : x.j < length list
  pub left_some : 0 < length (get_or list x.i [])
  pub right_some : 0 < length (get_or list x.j [])
  pub weighed : IsWeighed n ws x.lcm.monomial
  pub position : (lead_at n list x.i).0 ≡ (lead_at n list x.j).0
  pub lcm : key_of n x.lcm ≡ key_lcm (lead_at n list x.i) (lead_at n list x.j)
