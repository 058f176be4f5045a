use Rattle.std.proofs.Common.{length, ◌++◌, ◌<◌, ◌≡◌}
use Rattle.std.specs.VecDeque.{deque_len}
use Rattle.formal_sums.specs.FormalSums.{Each}
use Rattle.dense_reduction.specs.Rests.{rows_left}
use Rattle.dense_reduction.specs.Words.{row_leads_of}
use Rattle.row_reduce.specs.Echelons.{with_left}
use Rattle.row_reduce.specs.Passes.{places}
use Rattle.row_reduce.proofs.elimination.put_all.Given as goal

abbrev pub invariant-loop-left : goal.invariant-loop-left
invariant-loop-left l = record {
  rows : with_left l.state.rows.items l.rest.items ≡ with_left l.fn.state.rows.items l.fn.passed.left.items;
  leads : l.state.leads.items ≡ row_leads_of l.state.rows.items;
  held : l.state.held.items ≡ l.fn.passed.words.items;
  pending : l.state.pending.items ++ places l.rest.items ≡ places l.fn.passed.left.items;
  within : Each (λ k. k < length l.state.rows.items) (places l.rest.items);
  some : Each (λ r. 0 < length r.entries) (rows_left l.rest.items);
}

abbrev pub decreases-loop-left : goal.decreases-loop-left
decreases-loop-left l = deque_len l.rest
