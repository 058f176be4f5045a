use Rattle.above_examples.proofs.SquareNumerator.{line_dimension, square_dimension, square_numerator}
use Rattle.above_examples.proofs.square_laws.square_numerator.Goals as goal

pub returns : goal.returns
returns c = record { itself = square_numerator; dimension = square_dimension; line = line_dimension }
