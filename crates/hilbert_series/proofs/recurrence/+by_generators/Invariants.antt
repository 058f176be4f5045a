use Rattle.std.proofs.Common.{length}
use Rattle.hilbert_series.proofs.recurrence.+by_generators.Given as goal

abbrev pub decreases-by_generators : goal.decreases-by_generators
decreases-by_generators l = length l.list.items
