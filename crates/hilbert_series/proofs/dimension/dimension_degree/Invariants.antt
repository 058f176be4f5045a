use Rattle.std.proofs.Common.{length, ◌+◌, ◌≡◌}
use Rattle.hilbert_series.specs.Division.{IsDividedByPowers}
use Rattle.hilbert_series.proofs.dimension.dimension_degree.Given as goal

abbrev pub invariant-loop-order : goal.invariant-loop-order
invariant-loop-order l = record {
  divided : IsDividedByPowers l.series.coefficients.items l.rest.items l.order;
  long : length l.rest.items + l.order ≡ length l.series.coefficients.items;
}
