use Rattle.std.proofs.Common.{filter, length, take, ◌≡◌, ◌≤◌}
use Rattle.f4_job.specs.Tails.{needs_rows}
use Rattle.f4_job.proofs.tails.count_needing.Given as goal

abbrev pub invariant-loop-pair : goal.invariant-loop-pair
invariant-loop-pair g l = record {
  counted : l.count ≡ length (filter (needs_rows (g.L.Vectors.listed l.members)) (take l.pair-index l.pairs));
  few : l.count ≤ l.pair-index;
}
