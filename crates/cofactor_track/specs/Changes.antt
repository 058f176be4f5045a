-- What the calls on members make of vectors and of cofactors alike
use Rattle.std.specs.Prelude.{List, [], ⊤, ℕ, ◌++◌, ◌-◌, ◌<◌, ◌∷◌, ◌≡◌, ◌⊎◌}
use Rattle.monomials.specs.Exponents.{exponents_of, unit}
use Rattle.formal_sums.specs.FormalSums.{scale}
use Rattle.monomial_orders.specs.Kept.{Monomial}
use Rattle.term_lists.specs.Rings.{variables}
use Rattle.term_lists.specs.Stops.{HasMonomial, IsTooGreat}
use Rattle.term_lists.specs.Vectors.{StandsFor, sum_of}
use Rattle.term_lists.specs.declared.key.Key.{Key as CodeKey}
use Rattle.term_lists.specs.declared.ring.Ring.{Ring}
use Rattle.term_lists.specs.declared.stop.VectStop.{VectStop}
use Rattle.term_lists.specs.declared.stop.VectStop.TheVariants.{Memory, Degree}

-- a stands for e_i: the monomial 1 at position i
abbrev pub IsUnitVector : Ring → ℕ → List (CodeKey × ℕ) → Type 0
IsUnitVector ring i a = StandsFor ring a (((i, unit (variables ring)), 1) ∷ [])

-- w is c v, for a residue c
abbrev pub IsScaled : Ring → ℕ → List (CodeKey × ℕ) → List (CodeKey × ℕ) → Type 0
IsScaled ring c v w = StandsFor ring w (scale c (unit (variables ring)) (sum_of (variables ring) v))

-- w is t v, for a monomial t
abbrev pub IsTimes : Ring → Monomial → List (CodeKey × ℕ) → List (CodeKey × ℕ) → Type 0
IsTimes ring t v w = StandsFor ring w (scale 1 (exponents_of (variables ring) t.exponents) (sum_of (variables ring) v))

-- w is u less c t v; the modulus less c is -c
abbrev pub IsLess : Ring → ℕ → Monomial → List (CodeKey × ℕ) → List (CodeKey × ℕ) → List (CodeKey × ℕ) → Type 0
IsLess ring c t u v w =
    StandsFor ring w (sum_of (variables ring) u ++ scale (ring.modulus.value - c) (exponents_of (variables ring) t.exponents) (sum_of (variables ring) v))

-- Degree comes where c is not 0 and t times a monomial of the vector or of the cofactors has too great a degree, and carries these two
abbrev pub ChangeStops : ℕ → Monomial → List (CodeKey × ℕ) → List (CodeKey × ℕ) → VectStop → Type 0
ChangeStops c t v a Memory = ⊤
ChangeStops c t v a (Degree x y) = (0 < c) × (x ≡ t) × (HasMonomial v y ⊎ HasMonomial a y) × IsTooGreat x y
