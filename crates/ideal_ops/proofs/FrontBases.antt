-- The runs over a ring with one more variable in front, and the bases that they give
use Rattle.std.proofs.Common.{List, [], inl, inr, refl, subst, suc, sym, ℕ, ◌∷◌}
use Rattle.std.specs.Prelude.{◌↔◌}
use Rattle.formal_sums.proofs.OfRank.{IsOfRank_of}
use Rattle.formal_sums.specs.Combinations.{IsMember}
use Rattle.formal_sums.specs.FormalSums.{Each, FormalSum, IsOfRank}
use Rattle.bases.specs.Bases.{IsReducedBasis}
use Rattle.bases.specs.Settings.{IsLawful, Setting}
use Rattle.reduced_bases.proofs.Comparing.{IsReducedBasis_same}
use Rattle.operation_laws.proofs.Graded.{back_graded}
use Rattle.operation_laws.proofs.Plain.{intersect_plain, saturate_plain}
use Rattle.operation_laws.proofs.RankFacts.{back_rank, intersection_rank, saturation_rank}
use Rattle.operation_laws.proofs.Running.{lawful_elimination}
use Rattle.operation_laws.specs.Operations.{IsInSaturation, back, elimination_setting, intersection_list, saturation_list, with_first}
use Rattle.term_lists.proofs.NormalVectors.{vector_positions}
use Rattle.term_lists.specs.FrontVariables.{front_ring}
use Rattle.term_lists.specs.Rings.{ring_comparison, setting, variables}
use Rattle.term_lists.specs.Vectors.{HasPositions, sum_of, sums_of}
use Rattle.term_lists.specs.declared.ring.Ring.{Ring}
use Rattle.groebner_iface.specs.Runs.{IsReducedBasisOf}
use Rattle.syzygy_engine.specs.Answers.{IsBasisOfThose}
use Rattle.syzygy_engine.specs.Runs.{AreVectorsFor}
use Rattle.syzygy_engine.proofs.RunAnswers.{own_basis}
use Rattle.syzygy_engine.proofs.Standing.{Terms, rank_of_positions, ranks_of_positions, stand_basis, stand_module}
use Rattle.syzygy_engine.proofs.VectorLists.{positions_for}
use Rattle.ideal_ops.specs.FrontSteps.{AreRunsOnFront, IsBackBasis}
use Rattle.ideal_ops.specs.FrontVariable.{AreFrontRuns, IsFrontVector}
use Rattle.ideal_ops.specs.GradedOrders.{IsGrevlex}
use Rattle.ideal_ops.proofs.Dividing.{member_rank}
use Rattle.ideal_ops.proofs.GradedOrders.{graded_lawful, graded_setting, in_own_order}

-- runs on a list are runs on what it stands for
pub runs_for :
    (ring : Ring) (rank : ℕ) (G : List (FormalSum (suc (variables ring)))) (list : List Terms) → AreVectorsFor (front_ring ring) G list
    → (r : Ring) (m : ℕ) (l : List Terms) → AreRunsOnFront ring rank list r m l → AreFrontRuns ring rank G r m l
runs_for ring rank G list stand r m l (inl h) = inl (h.0, h.1, subst (AreVectorsFor (front_ring ring) G) (sym h.2) stand)
runs_for ring rank G list stand r m l (inr h) = inr (record {
  first_ring = h.first_ring;
  first_rank = h.first_rank;
  first_list = h.first_list;
  before = (h.before.0, h.before.1, subst (AreVectorsFor (front_ring ring) G) (sym h.before.2) stand);
  basis = h.basis;
  reduced = h.reduced;
  kept = h.kept;
  own_ring = h.own_ring;
  own_rank = h.own_rank;
})

module _ (ring : Ring) (rank : ℕ) (lawful : IsLawful (setting ring (variables ring) (ring_comparison ring (variables ring)) rank)) where
  abbrev S : Setting (variables ring)
  S = setting ring (variables ring) (ring_comparison ring (variables ring)) rank

  pub front_lawful : IsLawful (setting (front_ring ring) (suc (variables ring)) (ring_comparison (front_ring ring) (suc (variables ring))) rank)
  front_lawful = lawful_elimination (1 ∷ ring.weights) (suc (variables ring)) 1 S lawful

  -- a polynomial of the ring is one in one more variable
  pub front_low :
      (f u : Terms) → IsFrontVector ring (with_first (sum_of (variables ring) f)) u → HasPositions rank f → HasPositions rank u
  front_low f u h low =
      let n = variables ring in
      let p = ring.modulus.value in
      let g = sum_of n f in
      vector_positions (front_ring ring) (ring_comparison (front_ring ring)) rank rank u (with_first g) front_lawful h.vector h.stand
      (IsOfRank_of p rank (with_first g) (saturation_rank p rank g (g ∷ []) (rank_of_positions n rank f low, tt)).0)

  pub intersection_positions :
      (left right list : List Terms) → Each (HasPositions rank) left → Each (HasPositions rank) right
      → AreVectorsFor (front_ring ring) (intersection_list ring.modulus.value (sums_of (variables ring) left) (sums_of (variables ring) right)) list → Each (HasPositions rank) list
  intersection_positions left right list h k stand =
      let n = variables ring in
      positions_for (front_ring ring) rank front_lawful list (intersection_list ring.modulus.value (sums_of n left) (sums_of n right)) stand
      (intersection_rank ring.modulus.value rank (sums_of n left) (sums_of n right) (ranks_of_positions n rank left h) (ranks_of_positions n rank right k))

  pub saturation_positions :
      (list whole : List Terms) (f : FormalSum (variables ring)) → Each (HasPositions rank) list
      → AreVectorsFor (front_ring ring) (saturation_list ring.modulus.value rank f (sums_of (variables ring) list)) whole → Each (HasPositions rank) whole
  saturation_positions list whole f h stand =
      let n = variables ring in
      positions_for (front_ring ring) rank front_lawful whole (saturation_list ring.modulus.value rank f (sums_of n list)) stand
      (saturation_rank ring.modulus.value rank f (sums_of n list) (ranks_of_positions n rank list h))

  pub back_positions :
      (list first kept : List Terms) → IsReducedBasisOf (front_ring ring) rank list first → AreVectorsFor ring (back (sums_of (suc (variables ring)) first)) kept → Each (HasPositions rank) kept
  back_positions list first kept run members =
      let n = variables ring in
      positions_for ring rank lawful kept (back (sums_of (suc n) first)) members (back_rank rank (sums_of (suc n) first) (ranks_of_positions (suc n) rank first run.positions))

  -- where the ring's own order compares them alike, the members that are taken back are the reduced basis of their module
  pub back_itself :
      IsGrevlex ring rank → (list first kept : List Terms) → Each (HasPositions rank) list → IsReducedBasisOf (front_ring ring) rank list first
      → AreVectorsFor ring (back (sums_of (suc (variables ring)) first)) kept → IsReducedBasisOf ring rank kept kept
  back_itself graded list first kept low run members =
      let n = variables ring in
      let G = sums_of (suc n) first in
      stand_basis ring rank kept (back G) lawful members.vectors members.stand (back_positions list first kept run members)
      (in_own_order ring rank lawful graded (back G) (back_rank rank G (ranks_of_positions (suc n) rank first run.positions))
      (back_graded (graded_setting ring rank) 1 ring.weights (sums_of (suc n) list) G (graded_lawful ring rank lawful) refl (ranks_of_positions (suc n) rank list low) run.basis))

  -- the first run on what the list stands for
  front_basis :
      (G : List (FormalSum (suc (variables ring)))) (list answer : List Terms) → AreVectorsFor (front_ring ring) G list → (h : IsBackBasis ring rank list answer)
      → IsReducedBasis (elimination_setting (1 ∷ ring.weights) (suc (variables ring)) 1 (setting ring (variables ring) (ring_comparison ring (variables ring)) rank)) G (sums_of (suc (variables ring)) h.first)
  front_basis G list answer stand h =
      let n = variables ring in
      IsReducedBasis_same (elimination_setting (1 ∷ ring.weights) (suc n) 1 S) front_lawful (sums_of (suc n) list) G (sums_of (suc n) h.first)
      (stand_module (front_ring ring) list G stand.stand) h.reduced.basis

  -- the second run on the members that are taken back
  back_basis :
      (list answer : List Terms) → (h : IsBackBasis ring rank list answer)
      → IsReducedBasis (setting ring (variables ring) (ring_comparison ring (variables ring)) rank) (back (sums_of (suc (variables ring)) h.first)) (sums_of (variables ring) answer)
  back_basis list answer h =
      let n = variables ring in
      IsReducedBasis_same S lawful (sums_of n h.kept) (back (sums_of (suc n) h.first)) (sums_of n answer)
      (stand_module ring h.kept (back (sums_of (suc n) h.first)) h.members.stand) h.second.basis

  basis_itself : (list answer : List Terms) → IsBackBasis ring rank list answer → IsReducedBasisOf ring rank answer answer
  basis_itself list answer h = own_basis ring rank lawful h.kept answer (back_positions list h.first h.kept h.reduced h.members) h.second

  pub basis_of_intersection :
      (left right list answer : List Terms) → Each (HasPositions rank) left → Each (HasPositions rank) right
      → AreVectorsFor (front_ring ring) (intersection_list ring.modulus.value (sums_of (variables ring) left) (sums_of (variables ring) right)) list → IsBackBasis ring rank list answer
      → IsBasisOfThose ring rank (λ v. IsMember ring.modulus.value (sums_of (variables ring) left) v × IsMember ring.modulus.value (sums_of (variables ring) right) v) answer
  basis_of_intersection left right list answer h k stand back =
      let n = variables ring in
      let F = sums_of n left in
      let H = sums_of n right in
      record {
        basis = basis_itself list answer back;
        members = λ v. intersect_plain S (1 ∷ ring.weights) F H (sums_of (suc n) back.first) (sums_of n answer) v lawful
            (ranks_of_positions n rank left h) (ranks_of_positions n rank right k)
            (front_basis (intersection_list ring.modulus.value F H) list answer stand back) (back_basis list answer back);
      }

  saturated :
      (list whole answer : List Terms) (f : FormalSum (variables ring)) → Each (HasPositions rank) list
      → AreVectorsFor (front_ring ring) (saturation_list ring.modulus.value rank f (sums_of (variables ring) list)) whole → IsBackBasis ring rank whole answer
      → (v : FormalSum (variables ring)) → IsOfRank ring.modulus.value rank v
      → IsMember ring.modulus.value (sums_of (variables ring) answer) v ↔ IsInSaturation ring.modulus.value f (sums_of (variables ring) list) v
  saturated list whole answer f h stand back v r =
      let n = variables ring in
      let F = sums_of n list in
      saturate_plain S (1 ∷ ring.weights) f F (sums_of (suc n) back.first) (sums_of n answer) v lawful (ranks_of_positions n rank list h) r
      (front_basis (saturation_list ring.modulus.value rank f F) whole answer stand back) (back_basis whole answer back)

  pub basis_of_saturation :
      (list whole answer : List Terms) (f : FormalSum (variables ring)) → Each (HasPositions rank) list
      → AreVectorsFor (front_ring ring) (saturation_list ring.modulus.value rank f (sums_of (variables ring) list)) whole → IsBackBasis ring rank whole answer
      → IsBasisOfThose ring rank (λ v. IsOfRank ring.modulus.value rank v × IsInSaturation ring.modulus.value f (sums_of (variables ring) list) v) answer
  basis_of_saturation list whole answer f h stand back =
      let n = variables ring in
      record {
        basis = basis_itself whole answer back;
        members = λ v. (
          λ a.
              let r = member_rank ring.modulus.value rank (sums_of n answer) (ranks_of_positions n rank answer back.second.positions) v a in
              (r, (saturated list whole answer f h stand back v r).0 a),
          λ b. (saturated list whole answer f h stand back v b.0).1 b.1,
        );
      }
