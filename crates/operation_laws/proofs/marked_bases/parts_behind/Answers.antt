use Rattle.operation_laws.proofs.Behind.{behind_exact, behind_reduced}
use Rattle.operation_laws.proofs.marked_bases.parts_behind.Goals as goal

pub returns : goal.returns
returns c = record {
  basis = λ n q s S monomials L G lawful o ranks b. behind_reduced S monomials q s L G lawful o ranks b;
  members = λ n q s S monomials L G w lawful o ranks b. behind_exact S monomials q s L G lawful o ranks b w;
}
