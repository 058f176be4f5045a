use Rattle.operation_laws.proofs.Parts.{first_reduced, kernel_exact, kernel_reduced}
use Rattle.operation_laws.proofs.marked_bases.marked_parts.Goals as goal

pub returns : goal.returns
returns c = record {
  first = λ n q S monomials F G. first_reduced S monomials q F G;
  kernel = λ n q S monomials F G. kernel_reduced S monomials q F G;
  syzygies = λ n q S monomials F G a lawful o r b. kernel_exact S monomials q F G lawful o r b a;
}
