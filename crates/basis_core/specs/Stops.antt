-- Why a run stops early, and the trail that a stop by the degree carries
use Rattle.std.specs.Prelude.{List, None, Option, Some, [], get_or, ⊤, ℕ, ◌++◌, ◌+◌, ◌<◌, ◌∷◌, ◌≡◌}
use Rattle.monomials.specs.Exponents.{exponents_of}
use Rattle.monomials.specs.Weights.{weighted_degree}
use Rattle.formal_sums.specs.FormalSums.{FormalSum}
use Rattle.term_lists.specs.Rings.{ring_comparison, variables}
use Rattle.term_lists.specs.Vectors.{AreVectorsOver, sums_of}
use Rattle.module_vectors.specs.Trails.{IsTrail as IsKeptTrail, KeptProduct, last_product, no_product}
use Rattle.module_vectors.specs.declared.trail.KeptTrail.{KeptTrail}
use Rattle.module_vectors.specs.declared.trail.TrailStart.{TrailStart}
use Rattle.module_vectors.specs.declared.trail.TrailStart.TheVariants as starts
use Rattle.basis_steps.specs.Criteria.{IsPair}
use Rattle.basis_steps.specs.Divisions.{Occurs}
use Rattle.basis_steps.specs.Outcomes.{AreJobProducts}
use Rattle.basis_steps.specs.Pairs.{Pair, count}
use Rattle.basis_steps.specs.States as plain
use Rattle.basis_steps.specs.States.{Trail, vectors}
use Rattle.basis_core.specs.declared.stop.StopReason.{StopReason}
use Rattle.basis_core.specs.declared.stop.StopReason.TheVariants.{Pairs, Memory, Degree}
use Rattle.basis_core.specs.Members.{Shared, MemberShown, members_of}
use Rattle.basis_core.specs.Outcomes.{indexed_product_of, indexed_products_of}

-- the vectors of the trail's members
abbrev pub trail_members : (n : ℕ) → KeptTrail → List (FormalSum n)
trail_members n t = sums_of n t.members

-- the pair that a trail starts with
abbrev pub start_pair : TrailStart → Pair
start_pair (starts.Pair i j) = (i, j)
start_pair starts.Term = (0, 0)
start_pair starts.Product = (0, 0)

-- the products but for the last
abbrev pub earlier_products : KeptProduct → List KeptProduct → List KeptProduct
earlier_products s [] = []
earlier_products s (t ∷ ts) = s ∷ earlier_products t ts

-- the trail of these products, the first of them apart
abbrev pub trail_by : (n : ℕ) → KeptTrail → KeptProduct → List KeptProduct → Trail n
trail_by n t first later = record {
  members = trail_members n t;
  start = start_pair t.start;
  earlier = indexed_products_of n (earlier_products first later);
  last = indexed_product_of n (last_product first later);
  monomial = exponents_of n t.last.exponents;
}

-- the same of all its products
abbrev pub trail_over : (n : ℕ) → KeptTrail → List KeptProduct → Trail n
trail_over n t [] = trail_by n t no_product []
trail_over n t (first ∷ later) = trail_by n t first later

-- what a kept trail stands for
abbrev pub trail_of : (n : ℕ) → KeptTrail → Trail n
trail_of n t = trail_over n t t.products.items

-- a kept reason
abbrev pub reason_of : (n : ℕ) → StopReason → plain.StopReason n
reason_of n Pairs = plain.Pairs
reason_of n Memory = plain.Memory
reason_of n (Degree t) = plain.Degree (trail_of n t)

-- a kept stop
abbrev pub stop_of : (n : ℕ) → Option StopReason → Option (plain.StopReason n)
stop_of n None = None
stop_of n (Some reason) = Some (reason_of n reason)

-- the trail is of the run's ring, rank and generators, and has vectors as members; above it nothing is resolved
pub record IsTrailOver (shared : Shared) (t : KeptTrail) : Type 0 where
  pub trail : IsKeptTrail t
  pub ring : t.ring ≡ shared.ring
  pub rank : t.rank ≡ shared.rank
  pub generators : t.generators ≡ shared.generators
  pub below : t.below.items ≡ []
  pub vectors : AreVectorsOver shared.ring (ring_comparison shared.ring) t.members

-- such a trail that starts with a pair, as those of jobs and of rows that are handed in do
pub record IsPairTrail (shared : Shared) (t : KeptTrail) : Type 0 where
  pub over : IsTrailOver shared t
  pub vector : t.vector ≡ []
  pub start : (i : ℕ) × (j : ℕ) × (t.start ≡ starts.Pair i j)

-- such a trail by these members, which starts with one of the pairs: each product's lead is that pair's lcm or a monomial of an
-- earlier product, and the last product of two monomials is too great
pub record IsTrailBy (shared : Shared) (ms : List MemberShown) (pairs : List Pair) (t : KeptTrail) : Type 0 where
  pub pair : IsPairTrail shared t
  pub members : (trail_of (variables shared.ring) t).members ≡ vectors (members_of (variables shared.ring) ms)
  pub start : 0 < count (trail_of (variables shared.ring) t).start pairs
  pub real : IsPair (vectors (members_of (variables shared.ring) ms)) (trail_of (variables shared.ring) t).start
  pub products :
      AreJobProducts shared.ring.modulus.value (vectors (members_of (variables shared.ring) ms)) ((trail_of (variables shared.ring) t).start ∷ [])
      ((trail_of (variables shared.ring) t).earlier ++ ((trail_of (variables shared.ring) t).last ∷ []))
  pub monomial :
      (i : ℕ)
      × Occurs shared.ring.modulus.value (get_or (vectors (members_of (variables shared.ring) ms)) (trail_of (variables shared.ring) t).last.0 [])
      (i, (trail_of (variables shared.ring) t).monomial)
  pub above : 65535
      < weighted_degree shared.ring.weights (trail_of (variables shared.ring) t).last.1
      + weighted_degree shared.ring.weights (trail_of (variables shared.ring) t).monomial

-- a kept stop by the degree has such a trail
abbrev pub IsReasonOver : Shared → StopReason → Type 0
IsReasonOver shared Pairs = ⊤
IsReasonOver shared Memory = ⊤
IsReasonOver shared (Degree t) = IsPairTrail shared t
