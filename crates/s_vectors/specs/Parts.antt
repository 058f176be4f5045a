-- The products of members that make up a vector
use Rattle.std.specs.Prelude.{List, [], get_or, length, ⊤, ℕ, ◌++◌, ◌-◌, ◌<◌, ◌∷◌, ◌≡◌}
use Rattle.monomials.specs.Exponents.{exponents_of, quotient, times}
use Rattle.monomial_orders.specs.Kept.{IsWeighed, Monomial}
use Rattle.term_lists.specs.Stops.{HasMonomial, IsTooGreat}
use Rattle.term_lists.specs.declared.key.Key.{Key as CodeKey}
use Rattle.module_vectors.specs.Trails.{lead_at}
use Rattle.module_vectors.specs.declared.product.Product.{Product}
use Rattle.vector_division.specs.declared.reduction.ScaledProduct.{ScaledProduct}
use Rattle.s_vectors.specs.declared.sums.SumStop.{SumStop}
use Rattle.s_vectors.specs.declared.sums.SumStop.TheVariants.{Memory, Degree}
use Rattle.pair_criteria.specs.declared.pair.Pair.{Pair as CodePair}

-- a residue times a monomial in n variables of these weights times a vector of a list of so many
pub record IsPart (n : ℕ) (ws : List ℕ) (p count : ℕ) (q : ScaledProduct) : Type 0 where
  pub index : q.index < count
  pub weighed : IsWeighed n ws q.monomial
  pub reduced : q.residue < p

-- the part with this number, and a monomial of its vector that is too great for it
pub record IsGreatPart (list : List (List (CodeKey × ℕ))) (parts : List ScaledProduct) (number : ℕ) (m : Monomial) : Type 0 where
  pub front : List ScaledProduct
  pub part : ScaledProduct
  pub back : List ScaledProduct
  pub split : parts ≡ front ++ part ∷ back
  pub place : number ≡ length front
  pub monomial : HasMonomial (get_or list part.index []) m
  pub too_great : IsTooGreat part.monomial m

-- Degree comes with such a part alone
abbrev pub PartsStop : List (List (CodeKey × ℕ)) → List ScaledProduct → SumStop → Type 0
PartsStop list parts Memory = ⊤
PartsStop list parts (Degree number m) = IsGreatPart list parts number m

-- this residue times the monomial that takes the lead of the vector with this index to the lcm
pub record IsTopPart (n : ℕ) (ws : List ℕ) (list : List (List (CodeKey × ℕ))) (lcm : CodeKey) (index residue : ℕ) (q : ScaledProduct) : Type 0 where
  pub at : q.index ≡ index
  pub residue_is : q.residue ≡ residue
  pub weighed : IsWeighed n ws q.monomial
  pub exponents : exponents_of n q.monomial.exponents ≡ quotient (exponents_of n lcm.monomial.exponents) (lead_at n list index).1
  pub product : times (exponents_of n q.monomial.exponents) (lead_at n list index).1 ≡ exponents_of n lcm.monomial.exponents

-- the two parts of the pair's S-vector (IVA chapter 2, section 6)
pub record ArePairParts (n : ℕ) (ws : List ℕ) (p : ℕ) (list : List (List (CodeKey × ℕ))) (x : CodePair) (parts : List ScaledProduct) : Type 0 where
  pub left : ScaledProduct
  pub right : ScaledProduct
  pub two : parts ≡ left ∷ right ∷ []
  pub first : IsTopPart n ws list x.lcm x.i 1 left
  pub second : IsTopPart n ws list x.lcm x.j (p - 1) right

-- the product with this number and a monomial of its vector are too great
pub record IsGreatProduct (xs : List Product) (number : ℕ) (m : Monomial) : Type 0 where
  pub front : List Product
  pub product : Product
  pub back : List Product
  pub split : xs ≡ front ++ product ∷ back
  pub place : number ≡ length front
  pub monomial : HasMonomial product.vector.now m
  pub too_great : IsTooGreat product.monomial.now m

-- Degree comes with such a product alone
abbrev pub GreatStops : List Product → SumStop → Type 0
GreatStops xs Memory = ⊤
GreatStops xs (Degree number m) = IsGreatProduct xs number m
