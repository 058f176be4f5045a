-- Vectors divided by members, and how one comes to a product of too great a degree
use Rattle.std.specs.Prelude.{List, [], length, map, ⊤, ℕ, ◌+◌, ◌∷◌, ◌<◌, ◌≡◌}
use Rattle.formal_sums.specs.FormalSums.{Each}
use Rattle.monomial_orders.specs.Kept.{IsWeighed, Monomial}
use Rattle.term_lists.specs.Vectors.{sum_of}
use Rattle.term_lists.specs.declared.key.Key.{Key as CodeKey}
use Rattle.module_vectors.specs.Trails.{AreMet, HasKey, IsOfProduct, KeptProduct, kept_product_lead, last_product}
use Rattle.basis_core.specs.declared.row_division.RowStop.{RowStop}
use Rattle.basis_core.specs.declared.row_division.RowStop.TheVariants.{Memory, Degree}
use Rattle.basis_core.specs.Members.{MemberShown}

-- the terms of the members' vectors
abbrev pub vectors_in : List MemberShown → List (List (CodeKey × ℕ))
vectors_in ms = map (λ m. m.vector) ms

-- these products divide the vector by the members, and the last one's product with a monomial of its member is too great
pub record IsRowTrail (n : ℕ) (ws : List ℕ) (ms : List MemberShown) (v : List (CodeKey × ℕ)) (chain : List KeptProduct) (last : Monomial) : Type 0 where
  pub first : KeptProduct
  pub later : List KeptProduct
  pub products : chain ≡ first ∷ later
  pub known : Each (λ s. s.0 < length ms) (first ∷ later)
  pub weighed : Each (λ s. IsWeighed n ws s.1) (first ∷ later)
  pub begins : HasKey (sum_of n v) (kept_product_lead n (vectors_in ms) first)
  pub met : AreMet n (sum_of n v) (vectors_in ms) (first ∷ []) later
  pub monomial : IsOfProduct (vectors_in ms) (last_product first later) last
  pub too_great : 65535 < (last_product first later).1.degree + last.degree

-- Degree comes with such a trail alone
abbrev pub RowStops : (n : ℕ) (ws : List ℕ) → List MemberShown → List (CodeKey × ℕ) → RowStop → Type 0
RowStops n ws ms v Memory = ⊤
RowStops n ws ms v (Degree t) = IsRowTrail n ws ms v t.products.items t.last
