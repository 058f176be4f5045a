use Rattle.operation_laws.proofs.Multiply.{IsMember_products}
use Rattle.operation_laws.proofs.Plain.{product_plain}
use Rattle.operation_laws.proofs.module_operations.products_of_lists.Goals as goal

pub returns : goal.returns
returns c = record {
  reduced = λ n S F H R v. product_plain S F H R v;
  members = λ n p F H u v pos. IsMember_products pos F H u v;
}
