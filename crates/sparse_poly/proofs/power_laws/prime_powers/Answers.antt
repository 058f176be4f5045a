use Rattle.std.proofs.Common.{add-one, subst, sym, ◌++◌}
use Rattle.formal_sums.specs.FormalSums.{IsSame}
use Rattle.sparse_poly.specs.Binomials.{binary_form, choose}
use Rattle.sparse_poly.specs.Powers.{polynomial_power}
use Rattle.sparse_poly.proofs.Forms.{binomial_theorem}
use Rattle.sparse_poly.proofs.Frobenius.{frobenius}
use Rattle.sparse_poly.proofs.power_laws.prime_powers.Goals as goal

pub returns : goal.returns
returns c = record {
  binomial = λ n p k u v pos hu hv. subst (λ l. IsSame p (polynomial_power (u ++ v) k) (binary_form (choose k) u v l)) (sym (add-one k)) (binomial_theorem pos u v hu hv k);
  frobenius = λ n p v d h. frobenius d v h;
}
