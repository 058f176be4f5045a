use Rattle.operation_laws.proofs.OnePosition.{one_position, position_again}
use Rattle.operation_laws.proofs.marked_bases.polynomials_by_position.Goals as goal

pub returns : goal.returns
returns c = record {
  term_first = λ n S monomials F G lawful o ranks b. one_position monomials S lawful o F G ranks b;
  position_first = λ n S monomials F G lawful o ranks b. position_again monomials S lawful o F G ranks b;
}
