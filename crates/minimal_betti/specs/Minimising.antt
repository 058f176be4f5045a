-- What a cancellation in the code gives, and why it stops (Eisenbud, Commutative Algebra, section 20.1)
use Rattle.std.specs.Prelude.{[], drop, get_or, length, map, ⊤, ℕ, ◌<◌, ◌∷◌, ◌≡◌, ◌⊎◌}
use Rattle.minimal_laws.specs.Cancellation.{AreSameColumns, AreSameMaps, IsCancelled, IsFirstConstant, component, done, step}
use Rattle.minimal_laws.specs.Gradings.{GradedMaps, first_columns}
use Rattle.term_lists.specs.Rings.{ring_comparison, variables}
use Rattle.term_lists.specs.Vectors.{AreVectorsOver, IsVectorOver, sum_of, sums_of}
use Rattle.term_lists.specs.declared.ring.Ring.{Ring}
use Rattle.module_vectors.specs.Trails.{IsTrail}
use Rattle.module_vectors.specs.declared.trail.KeptTrail.{KeptTrail}
use Rattle.module_vectors.specs.declared.trail.TrailStart.TheVariants.{Product}
use Rattle.module_vectors.specs.declared.trail.WorkStop.{WorkStop}
use Rattle.module_vectors.specs.declared.trail.WorkStop.TheVariants.{Degree, Memory}
use Rattle.resolution_maps.specs.declared.maps.Resolution.{Resolution}
use Rattle.minimal_betti.specs.Graded.{graded_of}

-- s is the cancellation of r, in whatever form its vectors are: each time the first constant leaves, in the least map, in it in
-- the least column, in it in the least row
pub record IsCancellationOf (ring : Ring) (r s : Resolution) : Type 0 where
  pub maps : GradedMaps (variables ring)
  pub cancelled : IsCancelled ring.modulus.value (graded_of ring r) maps
  pub positions : maps.positions ≡ s.positions.items
  pub same : AreSameMaps ring.modulus.value maps.maps (graded_of ring s).maps

-- the maps are those of a cancellation before one of its steps, or before it ends
abbrev pub GoesThrough : {n p : ℕ} {C D : GradedMaps n} → IsCancelled p C D → GradedMaps n → Type 0
GoesThrough (done rows maps none) E = E ≡ record { positions = rows; maps = maps }
GoesThrough (step rows maps others D k c r s first inverse same more) E = (E ≡ record { positions = rows; maps = maps }) ⊎ GoesThrough more E

-- a cancellation of C comes to the maps E
abbrev pub IsCancellationReached : {n : ℕ} → ℕ → GradedMaps n → GradedMaps n → Type 0
IsCancellationReached {n} p C E = (D : GradedMaps n) × (c : IsCancelled p C D) × GoesThrough c E

-- the trail is one product, over this ring and of no run: its members are the columns of a map, its vector is the entry of another
-- column in row r, as a polynomial, and the product is of column c and a monomial of that entry
pub record IsClearingTrail (ring : Ring) (c r : ℕ) (t : KeptTrail) : Type 0 where
  pub trail : IsTrail t
  pub over : t.ring ≡ ring
  pub rank_none : t.rank ≡ 0
  pub generators : t.generators ≡ []
  pub below : t.below.items ≡ []
  pub start : t.start ≡ Product
  pub columns : AreVectorsOver ring (ring_comparison ring) t.members
  pub other : ℕ
  pub inside : other < length t.members
  pub apart : other ≡ c → ⊥
  pub vector : IsVectorOver ring (ring_comparison ring) t.vector
  pub entry : sum_of (variables ring) t.vector ≡ component r (sum_of (variables ring) (get_or t.members other []))
  pub product : map (λ s. s.0) t.products.items ≡ c ∷ []

-- the map of the trail is one that the cancellation of C comes to, with the first constant of the maps there at this column and row
pub record IsCancellationTrail (ring : Ring) (C : GradedMaps (variables ring)) (t : KeptTrail) : Type 0 where
  pub maps : GradedMaps (variables ring)
  pub reached : IsCancellationReached ring.modulus.value C maps
  pub place : ℕ
  pub column : ℕ
  pub row : ℕ
  pub first : IsFirstConstant ring.modulus.value maps.maps place column row
  pub same : AreSameColumns ring.modulus.value (first_columns (drop place maps.maps)) (sums_of (variables ring) t.members)
  pub clearing : IsClearingTrail ring column row t

-- Degree comes with such a trail alone
abbrev pub CancellationStops : (ring : Ring) → GradedMaps (variables ring) → WorkStop → Type 0
CancellationStops ring C Memory = ⊤
CancellationStops ring C (Degree t) = IsCancellationTrail ring C t
