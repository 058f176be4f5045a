use Rattle.std.proofs.Common.{length, take, ◌≡◌}
use Rattle.f4_job.specs.Flags.{AreFlags}
use Rattle.f4_job.proofs.flags.flags_of.Given as goal

abbrev pub invariant-loop-row : goal.invariant-loop-row
invariant-loop-row l = record {
  flags : AreFlags (take l.row-index l.rows) l.flags.items;
  len : length l.flags.items ≡ l.columns;
}
