-- Vectors with marks, and the run on them
use Rattle.std.proofs.Common.{List, [], ap, arith, get_or, length, refl, subst, suc, sym, take, ℕ, ◌++◌, ◌+◌, ◌<◌, ◌∙◌, ◌∷◌, ◌≡◌}
use Rattle.std.proofs.Math.Seq.{take-suc}
use Rattle.std.proofs.lemmas.List.{length-map}
use Rattle.monomials.specs.Exponents.{unit}
use Rattle.formal_sums.proofs.Combining.{Each_map}
use Rattle.formal_sums.proofs.OfRank.{IsOfRank_of}
use Rattle.formal_sums.proofs.WeightedSums.{Each_append}
use Rattle.formal_sums.specs.FormalSums.{Each, FormalSum, HasRank}
use Rattle.orders.proofs.Positions.{pot_order}
use Rattle.bases.specs.Bases.{IsReducedBasis}
use Rattle.bases.specs.Settings.{IsLawful}
use Rattle.reduced_bases.proofs.Comparing.{IsReducedBasis_same}
use Rattle.syzygy_laws.proofs.Marking.{get_or-marked, length-marked}
use Rattle.syzygy_laws.specs.Syzygies.{marked}
use Rattle.operation_laws.proofs.Linear.{Each_at}
use Rattle.operation_laws.proofs.RankFacts.{marked_rank}
use Rattle.monomial_orders.specs.Comparisons.{comparison, key_comparison}
use Rattle.monomial_orders.specs.Kept.{IsWeighed, Monomial}
use Rattle.monomial_orders.specs.Laws.{comparison_order}
use Rattle.monomial_orders.specs.Monomials.{IsMonomial}
use Rattle.monomial_orders.specs.declared.order.ModOrder.TheVariants.{Pot}
use Rattle.term_lists.specs.Rings.{ring_comparison, setting, variables}
use Rattle.term_lists.specs.Vectors.{AreTermsOver, AreVectorsOver, HasPositions, IsTerm, IsVector, IsVectorOver, StandsFor, key_of, sum_of, sums_of}
use Rattle.term_lists.specs.declared.ring.Ring.{Ring}
use Rattle.vector_division.proofs.Members.{sums_at}
use Rattle.groebner_iface.specs.Runs.{IsReducedBasisOf}
use Rattle.syzygy_engine.specs.Marking.{AreMarked, StandOneByOne, position_ring, position_setting}
use Rattle.syzygy_engine.proofs.Standing.{Terms, ranks_of_positions, stand_module, stand_next, stand_positions}

-- ---- one vector
pub loose : (ring : Ring) (v : Terms) → Each (IsTerm (variables ring) ring.weights ring.modulus.value) v → AreTermsOver ring v
loose ring v h = Each_map _ _ v (λ t k. (k.weighed, k.reduced)) h

pub loose_list : (ring : Ring) (list : List Terms) → AreVectorsOver ring (ring_comparison ring) list → Each (AreTermsOver ring) list
loose_list ring list h = Each_map (λ v. IsVectorOver ring (ring_comparison ring) v) (AreTermsOver ring) list (λ v k. loose ring v k.each) h

pub sum-append : (n : ℕ) (v w : Terms) → sum_of n (v ++ w) ≡ sum_of n v ++ sum_of n w
sum-append n [] w = refl
sum-append n (t ∷ v) w = ap (λ z. (key_of n t.0, t.1) ∷ z) (sum-append n v w)

pub marked_over :
    (ring : Ring) (v : Terms) (q : ℕ) (m : Monomial) → 1 < ring.modulus.value → AreTermsOver ring v → IsWeighed (variables ring) ring.weights m
    → AreTermsOver ring (v ++ (record { position = q; monomial = m }, 1) ∷ [])
marked_over ring v q m one h k = Each_append _ v _ h ((k, one), tt)

pub marked_sum :
    (n : ℕ) (v : Terms) (q : ℕ) (m : Monomial) → IsMonomial n (unit n) m.exponents
    → sum_of n (v ++ (record { position = q; monomial = m }, 1) ∷ []) ≡ sum_of n v ++ ((q, unit n), 1) ∷ []
marked_sum n v q m k = sum-append n v _ ∙ ap (λ e. sum_of n v ++ ((q, e), 1) ∷ []) k.exponents

-- ---- the list, one vector after another
pub marked_next :
    (ring : Ring) (q : ℕ) (list done : List Terms) (k : ℕ) (u : Terms)
    → StandOneByOne ring done (take k (marked q 0 (sums_of (variables ring) list))) → k < length list
    → StandsFor ring u (sum_of (variables ring) (get_or list k []) ++ ((q + k, unit (variables ring)), 1) ∷ [])
    → StandOneByOne ring (done ++ u ∷ []) (take (k + 1) (marked q 0 (sums_of (variables ring) list)))
marked_next ring q list done k u h lt s =
    let n = variables ring in
    let F = sums_of n list in
    let e : k + 1 ≡ suc k = omega arith in
    let lt' : k < length F = omega (arith, lt, length-map list (λ v. sum_of n v)) in
    let lt'' : k < length (marked q 0 F) = omega (arith, lt', length-marked q 0 F) in
    let z : 0 + k ≡ k = omega arith in
    let at : get_or (marked q 0 F) k [] ≡ sum_of n (get_or list k []) ++ ((q + k, unit n), 1) ∷ [] =
    get_or-marked q 0 k F lt' ∙ ap (λ f. f ++ ((q + (0 + k), unit n), 1) ∷ []) (sums_at n list k) ∙ ap (λ j. sum_of n (get_or list k []) ++ ((q + j, unit n), 1) ∷ []) z in
    subst (StandOneByOne ring (done ++ u ∷ [])) (sym (ap (λ j. take j (marked q 0 F)) e ∙ take-suc (marked q 0 F) k [] lt''))
    (stand_next ring done (take k (marked q 0 F)) u (get_or (marked q 0 F) k []) h (subst (StandsFor ring u) (sym at) s))

-- where the ring's own order is by position, its vectors are those by position
pub already_by_position :
    (ring : Ring) (v : Terms) → ring.module_order ≡ Pot → IsVectorOver ring (ring_comparison ring) v → IsVectorOver (position_ring ring) (ring_comparison (position_ring ring)) v
already_by_position ring v e h =
    subst (λ o. IsVector (variables ring) ring.weights ring.modulus.value (key_comparison o ring.order ring.weights (variables ring)) v) e h

pub lawful_by_position :
    (ring : Ring) (r : ℕ) → IsLawful (setting ring (variables ring) (ring_comparison ring (variables ring)) 0) → IsLawful (position_setting ring r)
lawful_by_position ring r lawful = record {
  domain = lawful.domain;
  order = pot_order r (comparison ring.order ring.weights (variables ring)) (comparison_order ring.order ring.weights (variables ring));
}

module _ (ring : Ring) (q : ℕ) (list done : List Terms) (marks : AreMarked ring q list done)
    (lawful : IsLawful (setting ring (variables ring) (ring_comparison ring (variables ring)) 0)) where
  abbrev F : List (FormalSum (variables ring))
  F = sums_of (variables ring) list

  count : length F ≡ length list
  count = length-map list (λ v. sum_of (variables ring) v)

  pub marked_positions : Each (HasPositions q) list → Each (HasPositions (q + length list)) done
  marked_positions low =
      stand_positions (position_ring ring) (ring_comparison (position_ring ring)) (q + length list) done (marked q 0 F) (lawful_by_position ring 0 lawful) marks.vectors marks.marks.each
      (λ i lt.
      let l : i < length (marked q 0 F) = omega (arith, lt, marks.marks.count) in
      let r = Each_at (HasRank (q + length F)) [] (marked q 0 F) (marked_rank q F (ranks_of_positions (variables ring) q list low)) i l in
      IsOfRank_of ring.modulus.value (q + length list) (get_or (marked q 0 F) i []) (subst (λ m. HasRank (q + m) (get_or (marked q 0 F) i [])) count r))

  -- the run's basis is the reduced basis of the marked list
  pub run_reduced :
      (basis : List Terms) → IsReducedBasisOf (position_ring ring) (q + length list) done basis
      → IsReducedBasis (position_setting ring (q + length list)) (marked q 0 F) (sums_of (variables ring) basis)
  run_reduced basis run =
      IsReducedBasis_same (position_setting ring (q + length list)) (lawful_by_position ring (q + length list) lawful) (sums_of (variables ring) done) (marked q 0 F) (sums_of (variables ring) basis)
      (stand_module ring done (marked q 0 F) marks.marks) run.basis
