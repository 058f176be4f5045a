use Rattle.hilbert_laws.proofs.Steps.{step_sums-more, step_sums_below, step_sums_one}
use Rattle.hilbert_laws.proofs.numerator_laws.steps_of_series.Goals as goal

pub returns : goal.returns
returns c = record { more = step_sums-more; below = step_sums_below; one = step_sums_one }
