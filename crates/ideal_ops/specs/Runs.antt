-- The runs of an operation on this list or that one, and of an elimination
use Rattle.std.specs.Prelude.{List, ℕ, ◌≡◌, ◌⊎◌}
use Rattle.operation_laws.specs.Operations.{eliminated}
use Rattle.monomial_orders.specs.declared.order.Order.TheVariants.{Elim}
use Rattle.monomial_orders.specs.declared.order.ModOrder.TheVariants.{Top}
use Rattle.term_lists.specs.Rings.{variables}
use Rattle.term_lists.specs.Vectors.{sums_of}
use Rattle.term_lists.specs.declared.key.Key.{Key as CodeKey}
use Rattle.term_lists.specs.declared.ring.Ring.{Ring}
use Rattle.syzygy_engine.specs.Runs.{AreTwoRuns, AreVectorsFor, IsRunFor, OfRuns}

-- the one run on this list
abbrev pub IsRunOn : Ring → ℕ → List (List (CodeKey × ℕ)) → OfRuns
IsRunOn ring rank list r m l = (r ≡ ring) × (m ≡ rank) × (l ≡ list)

-- the run on the one list or on the other
abbrev pub IsRunOnEither : Ring → ℕ → (left right : List (List (CodeKey × ℕ))) → OfRuns
IsRunOnEither ring rank left right r m l = IsRunOn ring rank left r m l ⊎ IsRunOn ring rank right r m l

-- ---- elimination (IVA chapter 3, section 1)
-- the ring by an order that eliminates the first k variables, term over position
abbrev pub elimination_ring : ℕ → Ring → Ring
elimination_ring k ring = record {
  modulus = ring.modulus;
  vars = ring.vars;
  order = Elim k;
  module_order = Top;
  weights = ring.weights;
  weighted = ring.weighted;
}

-- the runs of an elimination: on the list by the order that eliminates, and on the members that have not the variables
abbrev pub AreEliminationRuns : ℕ → Ring → ℕ → List (List (CodeKey × ℕ)) → OfRuns
AreEliminationRuns k ring rank list =
    AreTwoRuns (IsRunFor (elimination_ring k ring) rank (sums_of (variables ring) list))
    (λ first basis l. AreVectorsFor ring (eliminated k (sums_of (variables ring) basis)) l) ring rank
