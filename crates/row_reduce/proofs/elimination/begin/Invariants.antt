use Rattle.std.proofs.Common.{length, take, ◌≡◌, ◌≤◌}
use Rattle.std.specs.List.{range_with_len}
use Rattle.std.specs.Vec.{vec_capacity, vec_len}
use Rattle.dense_reduction.specs.Words.{row_leads_of}
use Rattle.row_reduce.proofs.elimination.begin.Given as goal

abbrev pub invariant-loop-row : goal.invariant-loop-row
invariant-loop-row l = record {
  leads : l.leads.items ≡ row_leads_of (take l.row-index l.fn.rows.items);
  pending : l.pending.items ≡ range_with_len 0 l.row-index;
  count : vec_len l.leads ≡ l.row-index;
  same : vec_len l.pending ≡ l.row-index;
  room : length l.fn.rows.items ≤ vec_capacity l.leads;
  space : length l.fn.rows.items ≤ vec_capacity l.pending;
}
