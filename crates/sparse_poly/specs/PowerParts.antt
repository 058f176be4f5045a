-- The powers on the way to one
use Rattle.std.specs.Prelude.{List, ℕ}
use Rattle.std.specs.declared.cmp.Ordering.{Ordering}
use Rattle.formal_sums.specs.FormalSums.{FormalSum, IsSame, Key}
use Rattle.term_lists.specs.Rings.{variables}
use Rattle.term_lists.specs.Vectors.{HasPositions, IsVector, sum_of}
use Rattle.term_lists.specs.declared.key.Key.{Key as CodeKey}
use Rattle.term_lists.specs.declared.ring.Ring.{Ring}
use Rattle.term_lists.specs.declared.stop.VectStop.{VectStop}
use Rattle.sparse_poly.specs.Powers.{polynomial_power}
use Rattle.sparse_poly.specs.Stops.{PowerStops, PowersFit}

-- v is the power k of a polynomial
pub record IsPower {n : ℕ} (ws : List ℕ) (p : ℕ) (compare : Key n → Key n → Ordering) (base : FormalSum n) (k : ℕ) (v : List (CodeKey × ℕ)) : Type 0 where
  pub vector : IsVector n ws p compare v
  pub positions : HasPositions 1 v
  pub same : IsSame p (sum_of n v) (polynomial_power base k)

-- v is the power k of base over the ring, and the powers up to it fit
pub record IsPowerOver (ring : Ring) (compare : (n : ℕ) → Key n → Key n → Ordering) (base : List (CodeKey × ℕ)) (k : ℕ) (v : List (CodeKey × ℕ)) : Type 0 where
  pub power_is : IsPower ring.weights ring.modulus.value (compare (variables ring)) (sum_of (variables ring) base) k v
  pub fits : PowersFit ring.weights ring.modulus.value (sum_of (variables ring) base) k

-- why the power k of base over the ring is not made
abbrev pub PowerStopsOver : Ring → List (CodeKey × ℕ) → ℕ → VectStop → Type 0
PowerStopsOver ring base k = PowerStops (variables ring) ring.weights ring.modulus.value (sum_of (variables ring) base) k
