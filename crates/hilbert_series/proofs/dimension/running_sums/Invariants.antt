use Rattle.hilbert_series.specs.Division.{IsSummed}
use Rattle.hilbert_series.proofs.dimension.running_sums.Given as goal

abbrev pub invariant-loop-d : goal.invariant-loop-d
invariant-loop-d l = IsSummed l.list l.sums.items l.sum l.d
