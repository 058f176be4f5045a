use Rattle.above_examples.proofs.WeightedSquare.{weighted_counts, weighted_dimension, weighted_minimal, weighted_square_numerator}
use Rattle.above_examples.proofs.square_laws.weighted_square.Goals as goal

pub returns : goal.returns
returns c = record {
  minimal = weighted_minimal;
  counts = weighted_counts;
  numerator = weighted_square_numerator;
  dimension = weighted_dimension;
}
