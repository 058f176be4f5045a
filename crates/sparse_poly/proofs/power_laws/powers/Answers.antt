use Rattle.std.proofs.Common.{refl, ◌+◌}
use Rattle.sparse_poly.proofs.Powering.{IsPolynomial_power, IsSame_power, IsSame_product_both, power_add, product_assoc}
use Rattle.sparse_poly.proofs.power_laws.powers.Goals as goal

pub returns : goal.returns
returns c = record {
  products = λ n p u v w x pos h k. IsSame_product_both pos u v w x h k;
  associative = λ n p u v w. product_assoc p u v w;
  same = λ n p k v w pos h. IsSame_power pos v w k h;
  sum = λ n p i j v pos. power_add pos v i j (i + j) refl;
  polynomial = λ n k v. IsPolynomial_power v k;
}
