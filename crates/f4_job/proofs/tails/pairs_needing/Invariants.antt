use Rattle.std.proofs.Common.{filter, take, ◌≡◌}
use Rattle.f4_job.specs.Tails.{needs_rows}
use Rattle.f4_job.proofs.tails.pairs_needing.Given as goal

abbrev pub invariant-loop-pair : goal.invariant-loop-pair
invariant-loop-pair g l = l.needing.items ≡ filter (needs_rows (g.L.Vectors.listed l.members)) (take l.pair-index l.pairs)
