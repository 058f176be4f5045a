use Rattle.std.proofs.Common.{length}
use Rattle.hilbert_series.proofs.Loops.{quotient_found}
use Rattle.hilbert_series.proofs.generators.quotient_by.Goals as goal

pub returns-in-Some-clause-value : goal.returns-in-Some-clause-value
returns-in-Some-clause-value c =
    quotient_found (length c.args.weights.now) c.args.s.now c.args.p.now c.in_ok-multiple.multiple c.in-Some.q c.in_ok-q.field-0
    c.requires.left.variables c.in_ok-multiple.ensures.ok c.in_ok-q.ensures.ok c.in-Some.is
