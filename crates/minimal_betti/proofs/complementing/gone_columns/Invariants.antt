use Rattle.std.proofs.Common.{List, ℕ}
use Rattle.column_passes.specs.Placing.{ArePlacesAfter}
use Rattle.minimal_betti.specs.Complementing.{AreGone}
use Rattle.minimal_betti.proofs.complementing.gone_columns.Given as goal

abbrev pub invariant-loop-number : goal.invariant-loop-number
invariant-loop-number l = (indices : List ℕ) → ArePlacesAfter indices l.leaving → AreGone indices l.columns l.gone.items
