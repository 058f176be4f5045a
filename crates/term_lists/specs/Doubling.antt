-- The ring of the graph of a map: each variable twice (IVA chapter 3, section 3)
use Rattle.std.specs.Prelude.{List, [], map, ℕ, ◌++◌, ◌∷◌, ◌≡◌}
use Rattle.monomial_orders.specs.declared.order.Order.TheVariants.{Elim}
use Rattle.monomial_orders.specs.declared.order.ModOrder.TheVariants.{Top}
use Rattle.term_lists.specs.Rings.{variables}
use Rattle.term_lists.specs.declared.ring.Ring.{Ring}

-- the name of the variable that stands for one: its own and an apostrophe, which no name in a script has
abbrev pub second_name : List ℕ → List ℕ
second_name name = name ++ 39 ∷ []

-- `graph` has the variables of `ring` and then as many new ones, with the same weights, by an order that eliminates the first
-- ones, term over position
pub record IsDoubled (ring graph : Ring) : Type 0 where
  pub modulus : graph.modulus ≡ ring.modulus
  pub vars : graph.vars ≡ ring.vars ++ map second_name ring.vars
  pub weights : graph.weights ≡ ring.weights ++ ring.weights
  pub order : graph.order ≡ Elim (variables ring)
  pub module_order : graph.module_order ≡ Top
