use Rattle.std.proofs.Common.{get_or, true, ◌<◌, ◌≡◌, ◌≤◌, ℕ}
use Rattle.pair_criteria.specs.declared.pair.Pair.{Pair as CodePair}
use Rattle.pair_updates.specs.Pairs.{index_pair_of}
use Rattle.pair_queue.specs.Tables.{flag}
use Rattle.pair_queue.proofs.skipping.count_due.Given as goal

abbrev pub invariant-loop-k : goal.invariant-loop-k
invariant-loop-k l = (j : ℕ) (x : CodePair) → l.before ≤ j → j < l.k → x ≡ get_or l.kept j x → flag l.due (index_pair_of x) ≡ true
