use Rattle.std.proofs.Common.{refl}
use Rattle.base_examples.proofs.order_examples.weighted_comparisons.Goals as goal

pub returns : goal.returns
returns c = record {
  degree = refl;
  degree_missing = refl;
  grevlex_degree = refl;
  grevlex_tie = refl;
  grevlex_last = refl;
  elimination = refl;
  elimination_tie = refl;
}
