-- When two monomials cannot be multiplied
use Rattle.std.specs.Prelude.{List, ⊤, ℕ, ◌+◌, ◌<◌, ◌≡◌, ◌≤◌, Contains}
use Rattle.formal_sums.specs.FormalSums.{Each}
use Rattle.monomial_orders.specs.Kept.{Monomial}
use Rattle.term_lists.specs.declared.key.Key.{Key as CodeKey}
use Rattle.term_lists.specs.declared.stop.VectStop.{VectStop}
use Rattle.term_lists.specs.declared.stop.VectStop.TheVariants.{Memory, Degree}

-- some term of the list has this monomial
abbrev pub HasMonomial : List (CodeKey × ℕ) → Monomial → Type 0
HasMonomial terms m = (t : CodeKey × ℕ) × Contains terms t × (t.0.monomial ≡ m)

-- the degrees of two monomials sum to more than 65,535
abbrev pub IsTooGreat : Monomial → Monomial → Type 0
IsTooGreat a b = 65535 < a.degree + b.degree

-- t times each term has a degree of at most 65,535
abbrev pub Fits : Monomial → List (CodeKey × ℕ) → Type 0
Fits t terms = Each (λ u. t.degree + u.0.monomial.degree ≤ 65535) terms

-- Degree comes where c is not 0 and t times a monomial of v has too great a degree, and carries these two
abbrev pub ScaledStops : ℕ → Monomial → List (CodeKey × ℕ) → VectStop → Type 0
ScaledStops c t v Memory = ⊤
ScaledStops c t v (Degree a b) = (0 < c) × (a ≡ t) × HasMonomial v b × IsTooGreat a b
