use Rattle.monomial_orders.proofs.Filling.{stored_as}
use Rattle.monomial_orders.proofs.mono.Mono.kept.Goals as goal

pub returns : goal.returns
returns c = stored_as _ _ c.self.view_is c.self.invariant
