use Rattle.monomial_counts.proofs.Divisors.{divisor_test}
use Rattle.monomial_counts.proofs.count_laws.divisor_tests.Goals as goal

pub returns : goal.returns
returns c = λ n m v. divisor_test m v
