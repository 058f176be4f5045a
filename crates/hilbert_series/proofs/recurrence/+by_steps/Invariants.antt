use Rattle.hilbert_series.proofs.recurrence.+by_steps.Given as goal

abbrev pub decreases-by_steps : goal.decreases-by_steps
decreases-by_steps l = l.steps
