-- The products that a division takes away, in the order in which it does
use Rattle.std.specs.Prelude.{List, [], get_or, length, map, ℕ, ◌<◌, ◌≡◌}
use Rattle.std.specs.declared.cmp.Ordering.{Ordering}
use Rattle.std.specs.declared.cmp.Ordering.TheVariants.{Greater}
use Rattle.monomials.specs.Exponents.{exponents_of}
use Rattle.formal_sums.specs.FormalSums.{Each, FormalSum, Key}
use Rattle.monomial_orders.specs.Kept.{IsWeighed}
use Rattle.term_lists.specs.Stops.{Fits}
use Rattle.term_lists.specs.declared.key.Key.{Key as CodeKey}
use Rattle.module_vectors.specs.Trails.{AreMet, KeptProduct, kept_product_lead}
use Rattle.vector_division.specs.declared.reduction.ScaledProduct.{ScaledProduct}

-- the product without its residue
abbrev pub unscaled : ScaledProduct → KeptProduct
unscaled q = (q.index, q.monomial)

-- the term of a cofactor that the product stands for
abbrev pub term_of : ScaledProduct → CodeKey × ℕ
term_of q = (record { position = q.index; monomial = q.monomial }, q.residue)

-- the quotients as cofactors of the list: position i for vector i
abbrev pub cofactors_of : (n : ℕ) → List ScaledProduct → FormalSum n
cofactors_of n qs = map (λ q. ((q.index, exponents_of n q.monomial.exponents), q.residue)) qs

-- a term of a quotient: of a vector of the list, with n variables of these weights, a residue that is not 0, and a product that fits
pub record IsScaledProduct (n : ℕ) (weights : List ℕ) (p : ℕ) (list : List (List (CodeKey × ℕ))) (q : ScaledProduct) : Type 0 where
  pub index : q.index < length list
  pub variables : IsWeighed n weights q.monomial
  pub nonzero : 0 < q.residue
  pub reduced : q.residue < p
  pub fits : Fits q.monomial (get_or list q.index [])

-- each product's lead is a key of v or of the product of an earlier one
abbrev pub AreMetFrom : (n : ℕ) → FormalSum n → List (List (CodeKey × ℕ)) → List KeptProduct → List ScaledProduct → Type 0
AreMetFrom n v list earlier qs = AreMet n v list earlier (map unscaled qs)

-- each product's lead is at most k
abbrev pub HaveLeadsUpTo : (n : ℕ) → (Key n → Key n → Ordering) → List (List (CodeKey × ℕ)) → Key n → List ScaledProduct → Type 0
HaveLeadsUpTo n compare list k qs = Each (λ q. compare (kept_product_lead n list (unscaled q)) k ≡ Greater → ⊥) qs
