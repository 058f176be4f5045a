-- A row that a column clears
use Rattle.std.specs.Prelude.{Contains, List, cond, map, nat_lt, ℕ, ⊤, ◌*◌, ◌-◌, ◌≡◌}
use Rattle.monomials.specs.Exponents.{unit}
use Rattle.formal_sums.specs.FormalSums.{Each, FormalSum, product, scale}
use Rattle.minimal_laws.specs.Cancellation.{component}
use Rattle.monomial_orders.specs.Kept.{Monomial}
use Rattle.term_lists.specs.Rings.{variables}
use Rattle.term_lists.specs.Stops.{HasMonomial, IsTooGreat}
use Rattle.term_lists.specs.Vectors.{AreTermsOver, sum_of}
use Rattle.term_lists.specs.declared.key.Key.{Key as CodeKey}
use Rattle.term_lists.specs.declared.ring.Ring.{Ring}
use Rattle.term_lists.specs.declared.stop.VectStop.{VectStop}
use Rattle.term_lists.specs.declared.stop.VectStop.TheVariants.{Degree, Memory}

-- the multiple of w that these terms' entry in row r takes away; s is the inverse of w's entry there
abbrev pub multiple_of : (ring : Ring) → ℕ → ℕ → List (CodeKey × ℕ) → List (CodeKey × ℕ) → FormalSum (variables ring)
multiple_of ring r s w v =
    let n = variables ring in
    product (scale ((ring.modulus.value - 1) * s) (unit n) (component r (sum_of n v))) (sum_of n w)

-- the terms at the positions that are left to them when row r leaves
abbrev pub lowered_behind : ℕ → List (CodeKey × ℕ) → List (CodeKey × ℕ)
lowered_behind r v = map (λ t. (record { position = cond (nat_lt t.0.position r) t.0.position (t.0.position - 1); monomial = t.0.monomial }, t.1)) v

-- terms of the list that make its entry in row r
pub record MakeEntry (ring : Ring) (r : ℕ) (v entry : List (CodeKey × ℕ)) : Type 0 where
  pub terms : AreTermsOver ring entry
  pub contained : Each (λ t. Contains v t) entry
  pub component : component r (sum_of (variables ring) entry) ≡ component r (sum_of (variables ring) v)

-- some term of the list has this monomial and stands in row r
abbrev pub IsMonomialAt : ℕ → List (CodeKey × ℕ) → Monomial → Type 0
IsMonomialAt r v a = (t : CodeKey × ℕ) × Contains v t × (t.0.position ≡ r) × (t.0.monomial ≡ a)

-- Degree comes where a monomial of v's entry in row r times one of w has too great a degree
abbrev pub ClearingStops : ℕ → List (CodeKey × ℕ) → List (CodeKey × ℕ) → VectStop → Type 0
ClearingStops r w v Memory = ⊤
ClearingStops r w v (Degree a b) = IsMonomialAt r v a × HasMonomial w b × IsTooGreat a b
