-- What contracts see of a queue
use Rattle.std.specs.Prelude.{List}
use Rattle.pair_criteria.specs.declared.pair.Pair.{Pair as CodePair}

-- the queued pairs, in their order
pub record QueueShown : Type 0 where
  pub items : List CodePair
