use Rattle.std.proofs.Common.{List, drop, take}
use Rattle.basis_steps.specs.Pairs.{Drop}
use Rattle.pair_updates.specs.Pairs.{pairs_of}
use Rattle.pair_updates.specs.Updating.{Staying}
use Rattle.pair_updates.proofs.updating.count_staying.Given as goal

abbrev pub invariant-loop-k : goal.invariant-loop-k
invariant-loop-k l = (drops : List Drop) → Staying l.leads l.h (pairs_of l.pairs) drops (take l.k l.pairs) (drop l.k l.pairs) drops
