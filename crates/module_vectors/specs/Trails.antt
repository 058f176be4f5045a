-- A trail: a chain of products that leads to one of too great a degree
use Rattle.std.specs.Prelude.{Contains, List, [], get_or, length, map, ℕ, ◌∷◌, ◌+◌, ◌<◌, ◌≡◌}
use Rattle.monomials.specs.Exponents.{exponents_of}
use Rattle.formal_sums.specs.FormalSums.{Each, FormalSum, Key, shift}
use Rattle.bases.specs.Leads.{head_key}
use Rattle.bases.specs.Meeting.{AreMetInTurn, IsMetBy}
use Rattle.bases.specs.Representations.{key_lcm}
use Rattle.monomial_orders.specs.Kept.{IsWeighed, Monomial}
use Rattle.term_lists.specs.Rings.{variables}
use Rattle.term_lists.specs.Vectors.{sum_of}
use Rattle.term_lists.specs.Stops.{HasMonomial}
use Rattle.term_lists.specs.declared.key.Key.{Key as CodeKey}
use Rattle.module_vectors.specs.declared.trail.KeptTrail.{KeptTrail}
use Rattle.module_vectors.specs.declared.trail.TrailStart.{TrailStart}
use Rattle.module_vectors.specs.declared.trail.TrailStart.TheVariants.{Pair, Term, Product}

-- a product (k, t), of the monomial t and member k
abbrev pub KeptProduct : Type 0
KeptProduct = ℕ × Monomial

-- the monomial 1 in no variables, at the first member: what stands past the end of a list of products
abbrev pub no_product : KeptProduct
no_product = (0, record { exponents = []; degree = 0 })

-- the product with this index
abbrev pub kept_at : List KeptProduct → ℕ → KeptProduct
kept_at products i = get_or products i no_product

-- a monomial in n variables of these weights times one of the members
abbrev pub IsKeptProduct : (n : ℕ) (ws : List ℕ) → List (List (CodeKey × ℕ)) → KeptProduct → Type 0
IsKeptProduct n ws members s = (s.0 < length members) × IsWeighed n ws s.1

-- the key of a term of the vector
abbrev pub HasKey : {n : ℕ} → FormalSum n → Key n → Type 0
HasKey v k = Contains (map (λ t. t.0) v) k

-- the member of a product
abbrev pub kept_product_member : (n : ℕ) → List (List (CodeKey × ℕ)) → KeptProduct → FormalSum n
kept_product_member n members s = sum_of n (get_or members s.0 [])

-- the lead of a product
abbrev pub kept_product_lead : (n : ℕ) → List (List (CodeKey × ℕ)) → KeptProduct → Key n
kept_product_lead n members s = shift (exponents_of n s.1.exponents) (head_key (kept_product_member n members s))

-- k is a key of a product
abbrev pub IsInProduct : (n : ℕ) → List (List (CodeKey × ℕ)) → Key n → KeptProduct → Type 0
IsInProduct n members k s = (l : Key n) × HasKey (kept_product_member n members s) l × (k ≡ shift (exponents_of n s.1.exponents) l)

-- k is a key of the vector or of an earlier product
abbrev pub IsMet : (n : ℕ) → FormalSum n → List (List (CodeKey × ℕ)) → List KeptProduct → Key n → Type 0
IsMet n v members earlier k = IsMetBy (HasKey v) (IsInProduct n members) earlier k

-- the leads of these products are met, each by the vector or by the products before it
abbrev pub AreMet : (n : ℕ) → FormalSum n → List (List (CodeKey × ℕ)) → List KeptProduct → List KeptProduct → Type 0
AreMet n v members earlier products = AreMetInTurn (HasKey v) (IsInProduct n members) (kept_product_lead n members) earlier products

-- the lead of each member: the key of its first term
abbrev pub lead_at : (n : ℕ) → List (List (CodeKey × ℕ)) → ℕ → Key n
lead_at n members i = head_key (sum_of n (get_or members i []))

-- a start by a pair: two members that are not zero, with leads at one position, whose lcm is the lead of the first product
pub record IsPairStart (n : ℕ) (members : List (List (CodeKey × ℕ))) (i j : ℕ) (first : KeptProduct) : Type 0 where
  pub left : i < length members
  pub right : j < length members
  pub left_some : 0 < length (get_or members i [])
  pub right_some : 0 < length (get_or members j [])
  pub apart : i ≡ j → ⊥
  pub position : (lead_at n members i).0 ≡ (lead_at n members j).0
  pub lcm : kept_product_lead n members first ≡ key_lcm (lead_at n members i) (lead_at n members j)

-- how the first product is met, and that nothing stands behind it where the trail is of one product
abbrev pub IsStart : (n : ℕ) → TrailStart → List (CodeKey × ℕ) → List (List (CodeKey × ℕ)) → KeptProduct → List KeptProduct → Type 0
IsStart n (Pair i j) vector members first later = IsPairStart n members i j first × (vector ≡ [])
IsStart n Term vector members first later = HasKey (sum_of n vector) (kept_product_lead n members first)
IsStart n Product vector members first later = HasMonomial vector first.1 × (later ≡ [])

-- the last of a list that is not empty
abbrev pub last_product : KeptProduct → List KeptProduct → KeptProduct
last_product s [] = s
last_product s (t ∷ products) = last_product t products

-- a monomial of a product's member
abbrev pub IsOfProduct : List (List (CodeKey × ℕ)) → KeptProduct → Monomial → Type 0
IsOfProduct members s m = HasMonomial (get_or members s.0 []) m

-- the products of a trail that begins with `first`, each of n variables
pub record IsChain (n : ℕ) (t : KeptTrail) (first : KeptProduct) (later : List KeptProduct) : Type 0 where
  pub products : t.products.items ≡ first ∷ later
  pub known : Each (λ s. s.0 < length t.members) (first ∷ later)
  pub variables : Each (λ s. IsWeighed n t.ring.weights s.1) (first ∷ later)
  pub begins : IsStart n t.start t.vector t.members first later
  pub met : AreMet n (sum_of n t.vector) t.members (first ∷ []) later
  pub last : IsOfProduct t.members (last_product first later) t.last
  pub last_variables : IsWeighed n t.ring.weights t.last
  pub too_great : 65535 < (last_product first later).1.degree + t.last.degree

-- t is a trail: it has a product, each is met before it is made, and the last one has too great a degree
abbrev pub IsTrail : KeptTrail → Type 0
IsTrail t = (first : KeptProduct) × (later : List KeptProduct) × IsChain (variables t.ring) t first later
