use Rattle.std.proofs.Common.{List, map, ℕ}
use Rattle.betti_laws.specs.ConstantParts.{constant_part}
use Rattle.term_lists.specs.Rings.{variables}
use Rattle.term_lists.specs.Vectors.{sums_of}
use Rattle.column_passes.specs.Placing.{ArePlacesAfter}
use Rattle.constant_passes.specs.Choosing.{IsPassOver, columns_without_rows}
use Rattle.constant_passes.proofs.Meeting.{AreMet}
use Rattle.constant_passes.proofs.choosing.chosen.Given as goal

abbrev pub invariant-loop-k : goal.invariant-loop-k
invariant-loop-k l = record {
  met :
      (rows : List ℕ) → ArePlacesAfter rows l.leaving
      → AreMet l.ring (map constant_part (columns_without_rows rows (sums_of (variables l.ring) l.columns))) l.order.items l.k
      l.pass.table.steps.items l.pass.choices.items;
  over : IsPassOver l.ring l.pass;
}
