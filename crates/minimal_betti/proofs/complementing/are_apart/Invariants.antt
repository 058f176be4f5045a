use Rattle.std.proofs.Common.{List, take, ℕ}
use Rattle.formal_sums.specs.FormalSums.{Each}
use Rattle.column_passes.specs.Placing.{ArePlacesAfter}
use Rattle.minimal_betti.specs.Complementing.{IsApart}
use Rattle.minimal_betti.proofs.complementing.are_apart.Given as goal

abbrev pub invariant-loop-v : goal.invariant-loop-v
invariant-loop-v l = (rows : List ℕ) → ArePlacesAfter rows l.leaving → Each (IsApart rows) (take l.v-index l.vectors)
