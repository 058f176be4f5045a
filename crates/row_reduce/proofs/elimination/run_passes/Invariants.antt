use Rattle.std.proofs.Common.{List, length}
use Rattle.row_matrix.specs.Rows.{RowShown}
use Rattle.row_reduce.specs.Echelons.{AreBetween, AreFrom, columns_behind}
use Rattle.row_reduce.proofs.elimination.run_passes.Given as goal

abbrev pub invariant-loop-alloc : goal.invariant-loop-alloc
invariant-loop-alloc g l = record {
  between : AreBetween l.modulus.value (length l.fn.state.held.items) l.inputs l.state.rows.items l.state.leads.items l.state.held.items l.state.pending.items;
  from :
      (M : List RowShown) → AreFrom l.modulus.value M l.fn.state.rows.items l.fn.state.held.items l.fn.state.pending.items
      → AreFrom l.modulus.value M l.state.rows.items l.state.held.items l.state.pending.items;
}

abbrev pub decreases-loop-alloc : goal.decreases-loop-alloc
decreases-loop-alloc g l = columns_behind (length l.fn.state.held.items) l.state.rows.items l.state.pending.items
