use Rattle.std.proofs.Common.{map, take, ◌∷◌, ◌≡◌}
use Rattle.vector_division.specs.Reductions.{unscaled}
use Rattle.schreyer_resolution.proofs.trails.quotient_products.Given as goal

abbrev pub invariant-loop-quotient : goal.invariant-loop-quotient
invariant-loop-quotient l = l.products.items ≡ (l.key.position, l.key.monomial) ∷ map unscaled (take l.quotient-index l.quotients)
