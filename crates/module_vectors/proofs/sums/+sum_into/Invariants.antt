use Rattle.std.proofs.Common.{length}
use Rattle.module_vectors.proofs.sums.+sum_into.Given as goal

abbrev pub decreases-sum_into : goal.decreases-sum_into
decreases-sum_into g l = length l.products.now
