use Rattle.std.proofs.Common.{◌∙◌}
use Rattle.monomial_orders.proofs.mono.Mono.degree.Goals as goal

pub returns-clause-value : goal.returns-clause-value
returns-clause-value c = c.degree.ensures.value ∙ c.kept.ensures.degree
