-- What the steps on the way over a ring with a front variable hand on
use Rattle.std.specs.Prelude.{List, [], suc, ℕ, ◌-◌, ◌∷◌, ◌≡◌}
use Rattle.monomials.specs.Exponents.{exponents_of, unit}
use Rattle.operation_laws.specs.Operations.{back, first_variable}
use Rattle.monomial_orders.specs.Kept.{Monomial}
use Rattle.term_lists.specs.FrontVariables.{front_ring}
use Rattle.term_lists.specs.Rings.{variables}
use Rattle.term_lists.specs.Vectors.{IsMonomialOver, sums_of}
use Rattle.term_lists.specs.declared.key.Key.{Key as CodeKey}
use Rattle.term_lists.specs.declared.ring.Ring.{Ring}
use Rattle.groebner_iface.specs.Runs.{IsReducedBasisOf}
use Rattle.syzygy_engine.specs.Runs.{AreTwoRuns, AreVectorsFor, OfRuns}
use Rattle.ideal_ops.specs.Runs.{IsRunOn}

-- the front variable of the ring that has it
pub record IsFrontMonomial (ring : Ring) (t : Monomial) : Type 0 where
  pub weighed : IsMonomialOver (front_ring ring) t
  pub exponents : exponents_of (suc (variables ring)) t.exponents ≡ first_variable (variables ring)

-- the terms -t and 1
pub record IsBehindFactor (ring : Ring) (t : Monomial) (terms : List (CodeKey × ℕ)) : Type 0 where
  pub one : Monomial
  pub exponents : exponents_of (suc (variables ring)) one.exponents ≡ unit (suc (variables ring))
  pub terms_are :
      terms ≡ (record { position = 0; monomial = t }, ring.modulus.value - 1) ∷ (record { position = 0; monomial = one }, 1) ∷ []

-- the run on this list over the ring with a front variable, and the one on the members without it
abbrev pub AreRunsOnFront : Ring → ℕ → List (List (CodeKey × ℕ)) → OfRuns
AreRunsOnFront ring rank list =
    AreTwoRuns (IsRunOn (front_ring ring) rank list)
    (λ first basis l. AreVectorsFor ring (back (sums_of (suc (variables ring)) basis)) l) ring rank

-- what the two runs answer
pub record IsBackBasis (ring : Ring) (rank : ℕ) (list answer : List (List (CodeKey × ℕ))) : Type 0 where
  pub first : List (List (CodeKey × ℕ))
  pub reduced : IsReducedBasisOf (front_ring ring) rank list first
  pub kept : List (List (CodeKey × ℕ))
  pub members : AreVectorsFor ring (back (sums_of (suc (variables ring)) first)) kept
  pub second : IsReducedBasisOf ring rank kept answer
