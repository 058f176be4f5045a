-- One more variable in front (IVA chapter 4, section 3)
use Rattle.std.proofs.Common.{ap}
use Rattle.std.specs.Prelude.{List, [], drop, map, slice_index, suc, ℕ, ◌∷◌, ◌≡◌}
use Rattle.formal_sums.specs.FormalSums.{Each}
use Rattle.monomial_orders.specs.declared.order.Order.TheVariants.{Elim}
use Rattle.monomial_orders.specs.declared.order.ModOrder.TheVariants.{Top}
use Rattle.term_lists.specs.declared.key.Key.{Key as CodeKey}
use Rattle.term_lists.specs.declared.ring.Ring.{Ring}

-- the name of the new variable, t', which no script can give: no name in it has an apostrophe
abbrev pub front_name : List ℕ
front_name = 116 ∷ 39 ∷ []

-- the ring with a new variable in front, of weight 1, by an order that eliminates it, term over position
abbrev pub front_ring : Ring → Ring
front_ring ring = record {
  modulus = ring.modulus;
  vars = front_name ∷ ring.vars;
  order = Elim 1;
  module_order = Top;
  weights = 1 ∷ ring.weights;
  weighted = ap suc ring.weighted;
}

-- the terms in one more variable, in front, which they have not
abbrev pub with_front : List (CodeKey × ℕ) → List (CodeKey × ℕ)
with_front terms = map (λ t. (
  record {
    position = t.0.position;
    monomial = record { exponents = 0 ∷ t.0.monomial.exponents; degree = t.0.monomial.degree };
  },
  t.1,
)) terms

-- the terms have not the first variable
abbrev pub HaveNoFront : List (CodeKey × ℕ) → Type 0
HaveNoFront terms = Each (λ t. slice_index t.0.monomial.exponents 0 ≡ 0) terms

-- the terms without the first variable, which they have not
abbrev pub without_front : List (CodeKey × ℕ) → List (CodeKey × ℕ)
without_front terms = map (λ t. (
  record {
    position = t.0.position;
    monomial = record { exponents = drop 1 t.0.monomial.exponents; degree = t.0.monomial.degree };
  },
  t.1,
)) terms
