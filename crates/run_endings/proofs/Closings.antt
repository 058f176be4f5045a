-- The members of a closed run are a Gröbner basis of its generators
use Rattle.std.proofs.Common.{List, [], ap, subst, sym, ℕ, ◌∷◌, ◌≡◌, refl}
use Rattle.formal_sums.specs.FormalSums.{Each, FormalSum}
use Rattle.bases.specs.Bases.{IsGroebnerBasis, IsReducedBasis}
use Rattle.term_lists.specs.Rings.{ring_comparison, setting, variables}
use Rattle.term_lists.specs.Vectors.{AreVectorsOver, HasPositions, sum_of, sums_of}
use Rattle.term_lists.specs.declared.key.Key.{Key as CodeKey}
use Rattle.term_lists.specs.declared.ring.Ring.{Ring}
use Rattle.member_products.specs.Generators.{AreGenerators}
use Rattle.basis_steps.specs.Invariant.{HoldsInvariant}
use Rattle.basis_steps.specs.States.{IsLawfulRun, vectors}
use Rattle.basis_steps.proofs.Closing.{members_basis}
use Rattle.basis_core.specs.Members.{IsMemberShown, Shared, MemberShown, members_of}
use Rattle.basis_core.specs.Rows.{vectors_in}
use Rattle.basis_core.specs.Shown.{Shown}
use Rattle.basis_core.specs.Stops.{stop_of}
use Rattle.basis_core.specs.Views.{run_of, state_of, variables_of}
use Rattle.groebner_iface.specs.Runs.{IsReducedBasisOf}
use Rattle.run_endings.specs.Endings.{IsClosed}

-- the vectors of the members
pub sums_of_vectors : (n : ℕ) (ms : List MemberShown) → sums_of n (vectors_in ms) ≡ vectors (members_of n ms)
sums_of_vectors n [] = refl
sums_of_vectors n (m ∷ ms) = ap (λ vs. sum_of n m.vector ∷ vs) (sums_of_vectors n ms)

module _ (s : Shown) (lawful : IsLawfulRun (run_of (variables_of s) s)) (holds : HoldsInvariant (run_of (variables_of s) s) (state_of (variables_of s) s)) where
  pub closed_basis :
      IsClosed s
      → IsGroebnerBasis (setting s.shared.ring (variables_of s) (ring_comparison s.shared.ring (variables_of s)) s.shared.rank) (sums_of (variables_of s) s.shared.generators) (sums_of (variables_of s) (vectors_in s.members))
  closed_basis closed =
      subst (IsGroebnerBasis (run_of (variables_of s) s).setting (run_of (variables_of s) s).generators) (sym (sums_of_vectors (variables_of s) s.members))
      (members_basis (run_of (variables_of s) s) (state_of (variables_of s) s) holds closed.ended (ap (stop_of (variables_of s)) closed.stop) lawful)

-- vectors of the ring with positions below the rank
pub are_generators :
    (ring : Ring) (rank : ℕ) (list : List (List (CodeKey × ℕ))) → AreVectorsOver ring (ring_comparison ring) list → Each (HasPositions rank) list
    → AreGenerators ring rank list
are_generators ring rank [] v p = tt
are_generators ring rank (x ∷ list) v p = (record { vector = v.0; positions = p.0 }, are_generators ring rank list v.1 p.1)

-- vectors of members are of the rank
pub members_positions : (shared : Shared) (ms : List MemberShown) → Each (IsMemberShown shared) ms → Each (HasPositions shared.rank) (vectors_in ms)
members_positions shared [] h = tt
members_positions shared (m ∷ ms) h = (h.0.vector.positions, members_positions shared ms h.1)

-- the interreduced members of a closed run
pub members_reduced :
    (s : Shown) (ring : Ring) (list answer : List (List (CodeKey × ℕ)))
    → IsLawfulRun (run_of (variables_of s) s) → HoldsInvariant (run_of (variables_of s) s) (state_of (variables_of s) s) → IsClosed s
    → ring ≡ s.shared.ring → list ≡ vectors_in s.members → Each (HasPositions s.shared.rank) list
    → AreVectorsOver ring (ring_comparison ring) answer
    → ((rank : ℕ) (G : List (FormalSum (variables ring)))
    → IsGroebnerBasis (setting ring (variables ring) (ring_comparison ring (variables ring)) rank) G (sums_of (variables ring) list)
    → IsReducedBasis (setting ring (variables ring) (ring_comparison ring (variables ring)) rank) G (sums_of (variables ring) answer))
    → ((rank : ℕ) → Each (HasPositions rank) list → Each (HasPositions rank) answer)
    → IsReducedBasisOf s.shared.ring s.shared.rank s.shared.generators answer
members_reduced s ring list answer lawful holds closed over copy ranked vectors reduced positions =
    let basis : IsGroebnerBasis (setting ring (variables ring) (ring_comparison ring (variables ring)) s.shared.rank) (sums_of (variables ring) s.shared.generators) (sums_of (variables ring) list) =
    subst (λ (l : List (List (CodeKey × ℕ))). IsGroebnerBasis (setting ring (variables ring) (ring_comparison ring (variables ring)) s.shared.rank) (sums_of (variables ring) s.shared.generators) (sums_of (variables ring) l)) (sym copy)
    (subst (λ (r : Ring). IsGroebnerBasis (setting r (variables r) (ring_comparison r (variables r)) s.shared.rank) (sums_of (variables r) s.shared.generators) (sums_of (variables r) (vectors_in s.members))) (sym over) (closed_basis s lawful holds closed)) in
    subst (λ (r : Ring). IsReducedBasisOf r s.shared.rank s.shared.generators answer) over (record {
      vectors = vectors;
      positions = positions s.shared.rank ranked;
      basis = reduced s.shared.rank (sums_of (variables ring) s.shared.generators) basis;
    })
