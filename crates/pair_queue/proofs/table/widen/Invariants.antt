use Rattle.std.proofs.Common.{length, ℕ, ◌≡◌}
use Rattle.pair_queue.specs.Tables.{AreWide, AreWideTo, has_at}
use Rattle.pair_queue.proofs.table.widen.Given as goal

abbrev pub invariant-loop-a : goal.invariant-loop-a
invariant-loop-a l = record {
  len : length l.rows.items ≡ length l.initial.rows.items;
  wide : AreWideTo l.a l.width l.rows.items;
  wider : (k : ℕ) → AreWide k l.initial.rows.items → AreWide k l.rows.items;
  flags : (b d : ℕ) → has_at l.rows.items b d ≡ has_at l.initial.rows.items b d;
}
