use Rattle.std.proofs.Common.{ap, ap₂, arith, length, sym, take, ◌∙◌}
use Rattle.monomial_orders.proofs.mono.Mono.exponents.Goals as goal

pub split_at-requires : goal.split_at-requires
split_at-requires c = omega (arith, c.variables.ensures, ap length c.as_slice.ensures, c.kept.ensures.kept.filled.long)

pub returns : goal.returns
returns c = record { value = c.split_at.ensures.front ∙ ap₂ take c.variables.ensures c.as_slice.ensures ∙ sym c.kept.ensures.front }
