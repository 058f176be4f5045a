-- What a ring says to the definitions of the base
use Rattle.std.specs.Prelude.{length, ℕ}
use Rattle.std.specs.declared.cmp.Ordering.{Ordering}
use Rattle.formal_sums.specs.FormalSums.{Key}
use Rattle.bases.specs.Settings.{Setting}
use Rattle.monomial_orders.specs.Comparisons.{key_comparison}
use Rattle.term_lists.specs.declared.ring.Ring.{Ring}

-- the number of variables
abbrev pub variables : Ring → ℕ
variables ring = length ring.vars

-- the comparison of keys in n variables
abbrev pub ring_comparison : Ring → (n : ℕ) → Key n → Key n → Ordering
ring_comparison ring n = key_comparison ring.module_order ring.order ring.weights n

-- the ring's modulus, a comparison and a rank, as the theorems on bases take them
abbrev pub setting : Ring → (n : ℕ) → (Key n → Key n → Ordering) → ℕ → Setting n
setting ring n compare rank = record { modulus = ring.modulus.value; weights = ring.weights; rank = rank; compare = compare }
