use Rattle.operation_laws.proofs.Graded.{back_graded, eliminated_graded}
use Rattle.operation_laws.proofs.module_operations.graded_eliminations.Goals as goal

pub returns : goal.returns
returns c = record {
  same_variables = λ n k S ws F G lawful order ranks b. eliminated_graded S ws k F G lawful order ranks b;
  fewer_variables = λ n w S ws L G lawful order ranks b. back_graded S w ws L G lawful order ranks b;
}
