use Rattle.std.proofs.Common.{◌∙◌}
use Rattle.monomial_orders.proofs.mono.Mono.variables.Goals as goal

pub returns : goal.returns
returns c = c.variables.ensures ∙ c.kept.ensures.kept.filled.variables
