-- The run that gives syzygies and lifts (UAG chapter 5, section 3)
use Rattle.std.specs.Prelude.{List, [], get_or, length, map, ℕ, ◌+◌, ◌-◌, ◌≡◌}
use Rattle.formal_sums.specs.FormalSums.{FormalSum}
use Rattle.bases.specs.Settings.{Setting}
use Rattle.syzygy_laws.specs.Syzygies.{marked}
use Rattle.monomial_orders.specs.declared.order.ModOrder.TheVariants.{Pot}
use Rattle.term_lists.specs.Rings.{ring_comparison, setting, variables}
use Rattle.term_lists.specs.Vectors.{AreVectorsOver, StandsFor, sums_of}
use Rattle.term_lists.specs.declared.key.Key.{Key as CodeKey}
use Rattle.term_lists.specs.declared.ring.Ring.{Ring}

-- the ring with its order of monomials, position over term (UAG chapter 5, section 2)
abbrev pub position_ring : Ring → Ring
position_ring ring = record {
  modulus = ring.modulus;
  vars = ring.vars;
  order = ring.order;
  module_order = Pot;
  weights = ring.weights;
  weighted = ring.weighted;
}

-- its setting of this rank
abbrev pub position_setting : (ring : Ring) → ℕ → Setting (variables ring)
position_setting ring rank = setting (position_ring ring) (variables ring) (ring_comparison (position_ring ring) (variables ring)) rank

-- the vectors stand one by one for the formal sums
pub record StandOneByOne (ring : Ring) (list : List (List (CodeKey × ℕ))) (G : List (FormalSum (variables ring))) : Type 0 where
  pub count : length list ≡ length G
  pub each : (i : ℕ) → StandsFor ring (get_or list i []) (get_or G i [])

-- the list of the run: vector i of the list, of rank q, with 1 at position q + i, in the order by position
pub record AreMarked (ring : Ring) (q : ℕ) (list done : List (List (CodeKey × ℕ))) : Type 0 where
  pub vectors : AreVectorsOver (position_ring ring) (ring_comparison (position_ring ring)) done
  pub marks : StandOneByOne ring done (marked q 0 (sums_of (variables ring) list))

-- the run itself: its ring, rank and list
abbrev pub IsMarkedRun : Ring → ℕ → List (List (CodeKey × ℕ)) → Ring → ℕ → List (List (CodeKey × ℕ)) → Type 0
IsMarkedRun ring q list over rank done = (over ≡ position_ring ring) × (rank ≡ q + length list) × AreMarked ring q list done

-- the terms, each position lowered by q
abbrev pub lowered_terms : ℕ → List (CodeKey × ℕ) → List (CodeKey × ℕ)
lowered_terms q terms = map (λ t. (record { position = t.0.position - q; monomial = t.0.monomial }, t.1)) terms
