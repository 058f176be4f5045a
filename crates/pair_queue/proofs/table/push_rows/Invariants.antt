use Rattle.std.proofs.Common.{length, ℕ, ◌-◌, ◌≡◌, ◌≤◌}
use Rattle.pair_queue.specs.Tables.{AreWide, has_at}
use Rattle.pair_queue.proofs.table.push_rows.Given as goal

abbrev pub invariant-loop-alloc : goal.invariant-loop-alloc
invariant-loop-alloc l = record {
  more : length l.fn.rows.items ≤ length l.rows.items;
  few : length l.rows.items ≤ l.width;
  wide : AreWide l.width l.rows.items;
  flags : (b d : ℕ) → has_at l.rows.items b d ≡ has_at l.fn.rows.items b d;
}

abbrev pub decreases-loop-alloc : goal.decreases-loop-alloc
decreases-loop-alloc l = l.width - length l.rows.items
