use Rattle.std.proofs.Common.{length, ◌∙◌}
use Rattle.session_values.proofs.Leading.{dimension_stop, few_leads, first_over, leads_over, none_counted, numerator_for, numerator_stop}
use Rattle.session_values.proofs.numbers.numbers_of.Goals as goal

pub numerator-requires-clause-leads : goal.numerator-requires-clause-leads
numerator-requires-clause-leads c =
    let ring = c.args.ring.now in
    leads_over ring c.args.rank (length ring.weights) c.args.basis.now c.as_slice.result.now ring.weighted (c.as_slice.ensures.value ∙ c.in-Ok.ensures)
    c.requires.basis.1.vectors

pub returns-in-Err-clause-stop : goal.returns-in-Err-clause-stop
returns-in-Err-clause-stop c =
    let ring = c.args.ring.now in
    numerator_stop ring c.args.rank (length ring.weights) c.args.basis.now c.as_slice.result.now ring.weighted (c.as_slice.ensures.value ∙ c.in-Ok.ensures)
    c.in-Err.stop c.in-Err.ensures.stop

pub returns-in-Ok-dimension_degree-clause-few : goal.returns-in-Ok-dimension_degree-clause-few
returns-in-Ok-dimension_degree-clause-few c =
    let ring = c.args.ring.now in
    few_leads ring c.args.rank (length ring.weights) c.args.basis.now c.as_slice.result.now ring.weighted (c.as_slice.ensures.value ∙ c.in-Ok.ensures)
    c.in-Ok-numerator.ensures.few

pub returns-in-Ok-dimension_degree-clause-counts : goal.returns-in-Ok-dimension_degree-clause-counts
returns-in-Ok-dimension_degree-clause-counts c =
    let ring = c.args.ring.now in
    numerator_for ring c.args.rank (length ring.weights) c.args.basis.now c.as_slice.result.now ring.weighted (c.as_slice.ensures.value ∙ c.in-Ok.ensures)
    c.in-Ok-numerator.series.coefficients.items c.in-Ok-numerator.ensures.numerator c.in-Ok-numerator.ensures.ends

pub returns-clause-stop : goal.returns-clause-stop
returns-clause-stop c =
    let ring = c.args.ring.now in
    let basis = c.args.basis.now in
    let keys = c.as_slice.result.now in
    let K = c.in-Ok-numerator.series.coefficients.items in
    let same = c.as_slice.ensures.value ∙ c.in-Ok.ensures in
    dimension_stop ring c.args.rank basis K
    (few_leads ring c.args.rank (length ring.weights) basis keys ring.weighted same c.in-Ok-numerator.ensures.few)
    (numerator_for ring c.args.rank (length ring.weights) basis keys ring.weighted same K c.in-Ok-numerator.ensures.numerator c.in-Ok-numerator.ensures.ends)
    c.in-Err-dimension_degree.stop c.in-Err-dimension_degree.ensures.stop

pub returns-in-Err-clause-first : goal.returns-in-Err-clause-first
returns-in-Err-clause-first c =
    let ring = c.args.ring.now in
    first_over ring c.args.rank (length ring.weights) c.args.basis.now c.as_slice.result.now ring.weighted (c.as_slice.ensures.value ∙ c.in-Ok.ensures)
    c.in-Err.stop c.in-Err.ensures.stop

pub returns-clause-first : goal.returns-clause-first
returns-clause-first c =
    none_counted c.args.ring.now c.args.rank c.args.basis.now c.in-Ok-numerator.series.coefficients.items c.in-Err-dimension_degree.stop
    c.in-Err-dimension_degree.ensures.stop
