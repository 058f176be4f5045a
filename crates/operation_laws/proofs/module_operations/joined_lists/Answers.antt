use Rattle.operation_laws.proofs.More.{sum_members}
use Rattle.operation_laws.proofs.Plain.{sum_plain}
use Rattle.operation_laws.proofs.module_operations.joined_lists.Goals as goal

pub returns : goal.returns
returns c = record {
  reduced = λ n S F H R v. sum_plain S F H R v;
  members = λ n p F H v pos. sum_members pos F H v;
}
