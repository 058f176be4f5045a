use Rattle.std.proofs.Common.{map}
use Rattle.column_passes.specs.Passing.{AreNumbered, HaveNoOthers}
use Rattle.column_passes.proofs.Passes.{AreMet}
use Rattle.column_passes.proofs.one_pass.pass.Given as goal

abbrev pub invariant-loop-k : goal.invariant-loop-k
invariant-loop-k l = record {
  met : AreMet l.ring l.columns l.order.items l.k l.table.steps.items l.met.items;
  numbered : AreNumbered l.table.numbers.items 0 (map (λ s. s.row) l.table.steps.items);
  others : HaveNoOthers l.table.numbers.items (map (λ s. s.row) l.table.steps.items);
}
