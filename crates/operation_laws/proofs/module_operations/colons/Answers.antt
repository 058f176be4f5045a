use Rattle.operation_laws.proofs.More.{all_of_rank}
use Rattle.operation_laws.proofs.OneMarkRuns.{colon_exact, colon_reduced}
use Rattle.operation_laws.proofs.module_operations.colons.Goals as goal

pub returns : goal.returns
returns c = record {
  basis = λ n S monomials m F C G lawful o ranks c_ranks b. colon_reduced S monomials lawful o m F C G ranks c_ranks b;
  members = λ n S monomials m F C G v lawful o ranks c_ranks b. colon_exact S monomials lawful o m F C G ranks c_ranks b v;
  empty = λ n p v. all_of_rank p v;
}
