-- A ring by another order
use Rattle.monomial_orders.specs.declared.order.Order.{Order}
use Rattle.term_lists.specs.declared.ring.Ring.{Ring}

-- the ring by another order of its monomials
abbrev pub with_order : Order → Ring → Ring
with_order order ring = record {
  modulus = ring.modulus;
  vars = ring.vars;
  order = order;
  module_order = ring.module_order;
  weights = ring.weights;
  weighted = ring.weighted;
}
