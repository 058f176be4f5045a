use Rattle.std.proofs.Common.{length}
use Rattle.term_tables.proofs.packing.+pack.Given as goal

abbrev pub decreases-pack : goal.decreases-pack
decreases-pack l = length l.bases.now
