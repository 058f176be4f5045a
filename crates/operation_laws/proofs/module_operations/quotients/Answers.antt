use Rattle.operation_laws.proofs.OneMarkRuns.{quotient_exact, quotient_reduced}
use Rattle.operation_laws.proofs.module_operations.quotients.Goals as goal

pub returns : goal.returns
returns c = record {
  basis = λ n S monomials m f F G lawful o ranks b. quotient_reduced S monomials lawful o m f F G ranks b;
  members = λ n S monomials m f F G v lawful o ranks b. quotient_exact S monomials lawful o m f F G ranks b v;
}
