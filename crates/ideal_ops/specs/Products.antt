-- Products outside of a run: why there is none, and the run on them (IVA chapter 4, section 3)
use Rattle.std.specs.Prelude.{List, [], get_or, length, ⊤, ℕ, ◌<◌, ◌∷◌, ◌≡◌}
use Rattle.operation_laws.specs.Operations.{products_of}
use Rattle.monomial_orders.specs.Kept.{Monomial}
use Rattle.term_lists.specs.Rings.{variables}
use Rattle.term_lists.specs.Vectors.{sums_of}
use Rattle.term_lists.specs.declared.key.Key.{Key as CodeKey}
use Rattle.term_lists.specs.declared.ring.Ring.{Ring}
use Rattle.module_vectors.specs.Trails.{IsTrail}
use Rattle.module_vectors.specs.declared.trail.KeptTrail.{KeptTrail}
use Rattle.module_vectors.specs.declared.trail.TrailStart.TheVariants.{Product}
use Rattle.module_vectors.specs.declared.trail.WorkStop.{WorkStop}
use Rattle.module_vectors.specs.declared.trail.WorkStop.TheVariants.{Memory, Degree}
use Rattle.syzygy_engine.specs.Runs.{IsRunFor, OfRuns}

-- a trail of one product outside a run, of a monomial of its vector and the one of its members with this index
pub record IsProductTrail (ring : Ring) (vector : List (CodeKey × ℕ)) (members : List (List (CodeKey × ℕ))) (k : ℕ) (t : KeptTrail) : Type 0 where
  pub trail : IsTrail t
  pub over : t.ring ≡ ring
  pub rank : t.rank ≡ 0
  pub generators : t.generators ≡ []
  pub below : t.below.items ≡ []
  pub start : t.start ≡ Product
  pub vector_is : t.vector ≡ vector
  pub members_are : t.members ≡ members
  pub factor : Monomial
  pub product : t.products.items ≡ (k, factor) ∷ []

-- work is not done for want of memory, or with one of these trails
abbrev pub WorkStops : (KeptTrail → Type 0) → WorkStop → Type 0
WorkStops Trails Memory = ⊤
WorkStops Trails (Degree t) = Trails t

-- the trail of b times a member of the list: the list is what it has as its members
abbrev pub IsTrailOfRow : Ring → List (CodeKey × ℕ) → List (List (CodeKey × ℕ)) → KeptTrail → Type 0
IsTrailOfRow ring b right t = (j : ℕ) × (j < length right) × IsProductTrail ring b right j t

-- the trail of a member of the first list times one of the second
abbrev pub IsTrailOfProducts : Ring → List (List (CodeKey × ℕ)) → List (List (CodeKey × ℕ)) → KeptTrail → Type 0
IsTrailOfProducts ring left right t = (i : ℕ) × (i < length left) × IsTrailOfRow ring (get_or left i []) right t

-- the run on the products of the members, those of the first list outermost
abbrev pub IsProductRun : Ring → ℕ → List (List (CodeKey × ℕ)) → List (List (CodeKey × ℕ)) → OfRuns
IsProductRun ring rank left right = IsRunFor ring rank (products_of (sums_of (variables ring) left) (sums_of (variables ring) right))
