use Rattle.std.proofs.Common.{length}
use Rattle.column_passes.proofs.clearing.+multiple.Given as goal

abbrev pub decreases-multiple : goal.decreases-multiple
decreases-multiple l = length l.terms.now
