use Rattle.std.proofs.Common.{ap, length, refl}
use Rattle.std.specs.Prelude.{Err}
use Rattle.hilbert_series.proofs.Positions.{numerator_same, one_first_over}
use Rattle.hilbert_series.specs.Leads.{keys_of}
use Rattle.hilbert_series.specs.declared.stop.HilbertStop.TheVariants.{Leads}
use Rattle.hilbert_series.proofs.leads.numerator.Goals as goal

pub returns-in-Some-clause-over : goal.returns-in-Some-clause-over
returns-in-Some-clause-over c = λ k h.
    let n = length c.args.weights.now in
    ap (λ x. Err (Leads x)) (one_first_over 120 c.args.rank c.in-Some.count k (keys_of n c.args.leads.now) (c.in-Some.ensures.over n c.in-Some.count refl) h)

pub returns-clause-numerator : goal.returns-clause-numerator
returns-clause-numerator c =
    let ws = c.args.weights.now in
    numerator_same (length ws) ws c.args.rank (keys_of (length ws) c.args.leads.now) c.in_ok-sum.sum.items c.without_zeros.result.items
    c.without_zeros.ensures.same c.in_ok-sum.ensures.numerator

pub module_numerator-requires-clause-rank : goal.module_numerator-requires-clause-rank
module_numerator-requires-clause-rank c = c.requires.rank

pub module_numerator-requires-clause-leads : goal.module_numerator-requires-clause-leads
module_numerator-requires-clause-leads c = c.requires.leads
