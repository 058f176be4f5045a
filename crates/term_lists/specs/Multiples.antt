-- Multiples of vectors, term by term
use Rattle.std.specs.Prelude.{List, map, ⊤, ℕ, ◌%◌, ◌*◌, ◌≡◌}
use Rattle.monomials.specs.Exponents.{exponents_of}
use Rattle.formal_sums.specs.FormalSums.{Each, IsSame, scale, shift}
use Rattle.monomial_orders.specs.Kept.{IsWeighed, Monomial}
use Rattle.term_lists.specs.Stops.{IsTooGreat}
use Rattle.term_lists.specs.Vectors.{IsTerm, key_of, sum_of}
use Rattle.term_lists.specs.declared.key.Key.{Key as CodeKey}
use Rattle.term_lists.specs.declared.stop.VectStop.{VectStop}
use Rattle.term_lists.specs.declared.stop.VectStop.TheVariants.{Memory, Degree}

-- the term u is c m t, with a reduced residue
pub record IsMultiple (n p c : ℕ) (m : Monomial) (t u : CodeKey × ℕ) : Type 0 where
  pub weighed : (ws : List ℕ) → IsWeighed n ws m → IsWeighed n ws t.0.monomial → IsWeighed n ws u.0.monomial
  pub key : key_of n u.0 ≡ shift (exponents_of n m.exponents) (key_of n t.0)
  pub residue : u.1 ≡ (c * t.1) % p

-- the terms u are those of c m v, in the same order, with reduced residues that are not 0
pub record AreMultiples (n : ℕ) (ws : List ℕ) (p c : ℕ) (m : Monomial) (v u : List (CodeKey × ℕ)) : Type 0 where
  pub each : Each (IsTerm n ws p) u
  pub keys : map (λ t. t.0) (sum_of n u) ≡ map (λ t. t.0) (scale c (exponents_of n m.exponents) (sum_of n v))
  pub sums : IsSame p (sum_of n u) (scale c (exponents_of n m.exponents) (sum_of n v))

-- Degree comes where a times b has too great a degree, and carries the two
abbrev pub MonomialProductStops : Monomial → Monomial → VectStop → Type 0
MonomialProductStops a b Memory = ⊤
MonomialProductStops a b (Degree x y) = (x ≡ a) × (y ≡ b) × IsTooGreat a b

-- the terms with each residue c times itself
abbrev pub rescaled : ℕ → ℕ → List (CodeKey × ℕ) → List (CodeKey × ℕ)
rescaled p c terms = map (λ t. (t.0, (c * t.1) % p)) terms
