use Rattle.above_examples.proofs.WeightedSquare.{by_none, by_weights}
use Rattle.above_examples.proofs.square_laws.weighted_degree_of_two.Goals as goal

pub returns : goal.returns
returns c = record { by_weights = by_weights; by_none = by_none }
