use Rattle.std.proofs.Common.{[], get_or, length, ℕ, ◌≡◌, ◌≤◌}
use Rattle.std.specs.Vec.{vec_capacity, vec_len}
use Rattle.order_change.proofs.table.Table.empty.Given as goal

abbrev pub invariant-loop : goal.invariant-loop
invariant-loop l = record {
  room : l.variables ≤ vec_capacity l.matrices;
  len : vec_len l.matrices ≡ l.counter;
  long : length l.matrices.items ≡ l.counter;
  rows : (v : ℕ) → get_or l.matrices.items v [] ≡ [];
}
