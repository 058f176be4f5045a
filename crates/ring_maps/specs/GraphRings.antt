-- The rings of the graph of a map (IVA chapter 3, section 3)
use Rattle.std.specs.Prelude.{map, ◌++◌, ◌≡◌}
use Rattle.monomial_orders.specs.declared.order.Order.TheVariants.{Elim}
use Rattle.monomial_orders.specs.declared.order.ModOrder.TheVariants.{Top}
use Rattle.term_lists.specs.Doubling.{second_name}
use Rattle.term_lists.specs.Rings.{variables}
use Rattle.term_lists.specs.declared.ring.Ring.{Ring}

-- `graph` has the variables of `ring` and then as many new ones, with whatever weights, by an order that eliminates the first
-- ones, term over position
pub record IsGraphRing (ring graph : Ring) : Type 0 where
  pub modulus : graph.modulus ≡ ring.modulus
  pub vars : graph.vars ≡ ring.vars ++ map second_name ring.vars
  pub order : graph.order ≡ Elim (variables ring)
  pub module_order : graph.module_order ≡ Top
