-- What a merge of two vectors keeps from step to step
use Rattle.std.specs.Prelude.{List, ℕ, ◌++◌}
use Rattle.std.specs.declared.cmp.Ordering.{Ordering}
use Rattle.formal_sums.specs.FormalSums.{Each, FormalSum, IsSame, Key}
use Rattle.orders.specs.KeyOrders.{Descends}
use Rattle.term_lists.specs.Vectors.{IsTerm, sum_of}
use Rattle.term_lists.specs.declared.key.Key.{Key as CodeKey}

-- what is done goes on to descend with either rest, and stands with both rests for the whole, modulo p
pub record Merging (n : ℕ) (ws : List ℕ) (p : ℕ) (compare : Key n → Key n → Ordering) (done left right : List (CodeKey × ℕ))
    (whole : FormalSum n) : Type 0 where
  pub done_terms : Each (IsTerm n ws p) done
  pub left_terms : Each (IsTerm n ws p) left
  pub right_terms : Each (IsTerm n ws p) right
  pub left_descends : Descends compare (sum_of n done ++ sum_of n left)
  pub right_descends : Descends compare (sum_of n done ++ sum_of n right)
  pub sums : IsSame p (sum_of n done ++ (sum_of n left ++ sum_of n right)) whole
