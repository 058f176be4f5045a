use Rattle.std.proofs.Common.{List, take, ℕ}
use Rattle.column_passes.specs.Placing.{ArePlacesAfter}
use Rattle.minimal_betti.specs.Complementing.{IsApart}
use Rattle.minimal_betti.proofs.complementing.is_apart.Given as goal

abbrev pub invariant-loop-term : goal.invariant-loop-term
invariant-loop-term l = (rows : List ℕ) → ArePlacesAfter rows l.leaving → IsApart rows (take l.term-index l.term-items)
