use Rattle.operation_laws.proofs.Plain.{kernel_plain, kernel_run}
use Rattle.operation_laws.proofs.module_operations.kernels.Goals as goal

pub returns : goal.returns
returns c = record {
  reduced = λ n q S K monomials F G R a. kernel_plain S K monomials q F G R a;
  members = λ n q S K monomials F G R a lawful k_lawful same o ranks run last. kernel_run S K monomials q F G R a lawful k_lawful same o ranks run.reduced last;
}
