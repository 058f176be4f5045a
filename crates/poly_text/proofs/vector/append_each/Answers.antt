use Rattle.poly_text.proofs.vector.append_each.Goals as goal

pub append_runs-requires-clause-variables : goal.append_runs-requires-clause-variables
append_runs-requires-clause-variables c = c.requires

pub append_scattered-requires : goal.append_scattered-requires
append_scattered-requires c = c.requires
