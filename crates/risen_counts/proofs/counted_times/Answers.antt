use Rattle.risen_counts.proofs.Counting.{at_most_both, both_times}
use Rattle.risen_counts.proofs.counted_times.Goals as goal

pub returns-clause-both : goal.returns-clause-both
returns-clause-both c = both_times

pub returns-clause-twice : goal.returns-clause-twice
returns-clause-twice c = at_most_both
