use Rattle.operation_laws.proofs.Plain.{eliminate_plain}
use Rattle.operation_laws.proofs.Running.{eliminate_run}
use Rattle.operation_laws.proofs.module_operations.eliminations.Goals as goal

pub returns : goal.returns
returns c = record {
  reduced = λ n k S ws F G R v. eliminate_plain S ws k F G R v;
  members = λ n k S ws F G R v. eliminate_run S ws k F G R v;
}
