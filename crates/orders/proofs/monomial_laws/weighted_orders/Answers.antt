use Rattle.orders.proofs.Weighted.{weighted_elimination-none, weighted_elimination_above, weighted_elimination_order, weighted_grevlex-none, weighted_grevlex_order}
use Rattle.orders.proofs.monomial_laws.weighted_orders.Goals as goal

pub returns : goal.returns
returns c = record {
  grevlex = weighted_grevlex_order;
  elimination = weighted_elimination_order;
  eliminates = λ n. weighted_elimination_above;
  grevlex_none = λ n. weighted_grevlex-none;
  elimination_none = λ n. weighted_elimination-none;
}
