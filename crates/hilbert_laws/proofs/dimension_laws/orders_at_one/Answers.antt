use Rattle.hilbert_laws.proofs.Orders.{order_by_dividing, order_of_division}
use Rattle.hilbert_laws.proofs.dimension_laws.orders_at_one.Goals as goal

pub returns : goal.returns
returns c = record {
  found = λ K z e vanishes value nonzero. order_of_division K z e (record { vanishes = vanishes; value = value; nonzero = nonzero });
  vanishes = λ K z i e o lt. (order_by_dividing K z e o).vanishes i lt;
  value = λ K z e o. (order_by_dividing K z e o).value;
}
