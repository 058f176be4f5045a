-- Products that come of a pair, one after another
use Rattle.std.specs.Prelude.{List, [], length, ⊤, ℕ, ◌++◌, ◌+◌, ◌<◌, ◌∷◌, ◌≡◌}
use Rattle.formal_sums.specs.FormalSums.{Each, Key}
use Rattle.monomial_orders.specs.Kept.{IsWeighed, Monomial}
use Rattle.term_lists.specs.declared.key.Key.{Key as CodeKey}
use Rattle.module_vectors.specs.Trails.{AreMet, IsOfProduct, KeptProduct, kept_product_lead}
use Rattle.basis_core.specs.Members.{MemberShown}
use Rattle.basis_core.specs.Rows.{vectors_in}
use Rattle.s_vectors.specs.declared.stops.PairStop.{PairStop}
use Rattle.s_vectors.specs.declared.stops.PairStop.TheVariants.{Memory, Degree}

-- the lead of the first product is k, and that of each later one is a key of an earlier one
abbrev pub AreProductsLinked : (n : ℕ) → List (List (CodeKey × ℕ)) → Key n → List KeptProduct → Type 0
AreProductsLinked n list k [] = ⊤
AreProductsLinked n list k (first ∷ later) = (kept_product_lead n list first ≡ k) × AreMet n [] list (first ∷ []) later

-- products of members by monomials in n variables of these weights that are linked to the lcm k of a pair
pub record ArePairProducts (n : ℕ) (ws : List ℕ) (list : List (List (CodeKey × ℕ))) (k : Key n) (products : List KeptProduct) : Type 0 where
  pub known : Each (λ s. s.0 < length list) products
  pub weighed : Each (λ s. IsWeighed n ws s.1) products
  pub linked : AreProductsLinked n list k products

-- such products, the last of which is too great for a monomial of its member
pub record IsPairChain (n : ℕ) (ws : List ℕ) (ms : List MemberShown) (k : Key n) (products : List KeptProduct) (last : Monomial) : Type 0 where
  pub front : List KeptProduct
  pub at_end : KeptProduct
  pub split : products ≡ front ++ at_end ∷ []
  pub pair : ArePairProducts n ws (vectors_in ms) k products
  pub monomial : IsOfProduct (vectors_in ms) at_end last
  pub too_great : 65535 < at_end.1.degree + last.degree

-- Degree comes with such a chain alone
abbrev pub PairStops : (n : ℕ) → List ℕ → List MemberShown → Key n → PairStop → Type 0
PairStops n ws ms k Memory = ⊤
PairStops n ws ms k (Degree chain) = IsPairChain n ws ms k chain.products.items chain.last
