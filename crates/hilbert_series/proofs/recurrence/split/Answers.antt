use Rattle.hilbert_series.proofs.recurrence.split.Goals as goal

pub split_by-requires-clause-done : goal.split_by-requires-clause-done
split_by-requires-clause-done c = c.requires.done

pub split_by-requires-clause-generators : goal.split_by-requires-clause-generators
split_by-requires-clause-generators c = c.requires.generators

pub split_by-requires-clause-apart : goal.split_by-requires-clause-apart
split_by-requires-clause-apart c = c.requires.apart
