-- How far a division has come
use Rattle.std.specs.Prelude.{List, ℕ}
use Rattle.formal_sums.specs.FormalSums.{Each}
use Rattle.term_lists.specs.Rings.{variables}
use Rattle.term_lists.specs.declared.key.Key.{Key as CodeKey}
use Rattle.term_lists.specs.declared.ring.Ring.{Ring}
use Rattle.remainders.specs.Leaving.{AreFactors, AreFreeFlags, AreTakenAway}
use Rattle.remainders.specs.declared.work.Work.{Work}

-- over these keys: a combination of the list was taken away of v, flags tell of keys that no lead divides, and factors are of the list
pub record IsUnderWay (ring : Ring) (list : List (List (CodeKey × ℕ))) (keys : List CodeKey) (v : List (CodeKey × ℕ)) (w : Work) : Type 0 where
  pub taken : AreTakenAway ring list keys v w.sums.items w.touched.items
  pub flags : AreFreeFlags (variables ring) list keys w.free.items
  pub factors : Each (AreFactors ring list) w.factors.items
