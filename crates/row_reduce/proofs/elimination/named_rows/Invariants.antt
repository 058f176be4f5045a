use Rattle.std.proofs.Common.{drop, length, reverse, ℕ, ◌-◌, ◌<◌, ◌≡◌}
use Rattle.dense_reduction.specs.Pivots.{lead_column}
use Rattle.dense_reduction.specs.Words.{named}
use Rattle.row_matrix.specs.Rows.{shown_row_at}
use Rattle.row_reduce.proofs.elimination.named_rows.Given as goal

abbrev pub invariant-loop-past : goal.invariant-loop-past
invariant-loop-past l = record {
  found : l.found.items ≡ reverse (named l.fn.rows.items (drop (length l.held - l.past) l.held));
  count : length l.rows.items ≡ length l.fn.rows.items;
  kept : (k : ℕ) → lead_column l.fn.rows.items k < length l.held - l.past → shown_row_at l.rows.items k ≡ shown_row_at l.fn.rows.items k;
}
