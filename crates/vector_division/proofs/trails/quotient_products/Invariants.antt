use Rattle.std.proofs.Common.{map, take, ◌≡◌}
use Rattle.vector_division.specs.Reductions.{unscaled}
use Rattle.vector_division.proofs.trails.quotient_products.Given as goal

abbrev pub invariant-loop-quotient : goal.invariant-loop-quotient
invariant-loop-quotient l = l.products.items ≡ map unscaled (take l.quotient-index l.quotients)
