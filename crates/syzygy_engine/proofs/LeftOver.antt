-- The lift that a division by a run's basis leaves
use Rattle.std.proofs.Common.{List, Option, [], ap, ap₂, arith, false, inl, inr, length, mod-eq_of_lt, refl, subst, sym, true, ℕ, ◌%◌, ◌*◌, ◌++◌, ◌+◌, ◌-◌, ◌<◌, ◌∙◌, ◌∷◌, ◌≡◌, ◌≤◌, ◌⊎◌}
use Rattle.std.proofs.lemmas.Bool.{cases_lt}
use Rattle.std.proofs.lemmas.Bool.Decides.{nat_tests}
use Rattle.std.proofs.lemmas.List.{length-map}
use Rattle.std.specs.Prelude.{nat_le, ◌&&◌}
use Rattle.residues.proofs.Congruences.{IsCongruent_of}
use Rattle.residues.specs.Residues.{IsCongruent}
use Rattle.monomials.proofs.Monomials.{and_left, and_right}
use Rattle.monomials.specs.Exponents.{unit}
use Rattle.formal_sums.proofs.Combining.{IsMember_combination, IsMember_same}
use Rattle.formal_sums.proofs.OfRank.{IsOfRank_of}
use Rattle.formal_sums.proofs.Sameness.{IsSame_refl, IsSame_scale, IsSame_sym, IsSame_trans}
use Rattle.formal_sums.proofs.TakenAway.{taken_away}
use Rattle.formal_sums.proofs.WeightedSums.{indicator_other}
use Rattle.formal_sums.specs.Combinations.{IsMember, combination}
use Rattle.formal_sums.specs.FormalSums.{Each, FormalSum, HasRank, IsOfRank, IsSame, Key, coefficient, indicator, scale}
use Rattle.bases.proofs.Leading.{positive}
use Rattle.bases.specs.Bases.{HasFreeTerms, IsReducedBasis}
use Rattle.bases.specs.Settings.{IsLawful, Setting}
use Rattle.division_laws.specs.Elimination.{is_from_position}
use Rattle.syzygy_laws.specs.Kernels.{all_kept, kernel_of, lowered, pot_setting}
use Rattle.syzygy_laws.specs.Syzygies.{marked}
use Rattle.operation_laws.proofs.Lifting.{IsLift_same, lift_found, lift_vanishes}
use Rattle.operation_laws.specs.Lifts.{IsLift}
use Rattle.monomial_orders.specs.Comparisons.{comparison}
use Rattle.monomial_orders.specs.Laws.{comparison_order}
use Rattle.term_lists.proofs.NormalVectors.{residues_of, vector_positions}
use Rattle.term_lists.specs.Rings.{ring_comparison, setting, variables}
use Rattle.term_lists.specs.Vectors.{HasPositions, IsVectorOver, StandsFor, sum_of, sums_of}
use Rattle.term_lists.specs.declared.ring.Ring.{Ring}
use Rattle.module_vectors.specs.declared.trail.WorkStop.{WorkStop}
use Rattle.module_vectors.specs.declared.trail.WorkStop.TheVariants as works
use Rattle.vector_division.proofs.Freeing.{HasFreeTerms_of_uncovered}
use Rattle.vector_division.proofs.Occurring.{nonzeros}
use Rattle.vector_division.specs.Divisions.{DivisionStops, IsDivisionTrail, IsFreeOfLeads}
use Rattle.vector_division.specs.Reductions.{IsScaledProduct, cofactors_of}
use Rattle.vector_division.specs.declared.reduction.ScaledProduct.{ScaledProduct}
use Rattle.groebner_iface.specs.Calls.{CallStops}
use Rattle.groebner_iface.specs.Runs.{IsReducedBasisOf, StoppedRun}
use Rattle.groebner_iface.specs.Stops.{op_stop_of_work}
use Rattle.syzygy_engine.specs.Lifts.{IsByPosition, IsLiftOf, IsLiftTrail, RestStops}
use Rattle.syzygy_engine.specs.Marking.{AreMarked, IsMarkedRun, position_ring, position_setting}
use Rattle.syzygy_engine.proofs.Generated.{by_length, count, exact, kernel_basis, ranks}
use Rattle.syzygy_engine.proofs.Marks.{lawful_by_position, run_reduced}
use Rattle.syzygy_engine.proofs.Standing.{Terms, rank_of_positions}

-- the quotients of a division are cofactors of its list
pub cofactor_rank :
    (n : ℕ) (ws : List ℕ) (p : ℕ) (list : List Terms) (qs : List ScaledProduct) → Each (IsScaledProduct n ws p list) qs → HasRank (length list) (cofactors_of n qs)
cofactor_rank n ws p list [] h = tt
cofactor_rank n ws p list (x ∷ qs) h = (h.0.index, cofactor_rank n ws p list qs h.1)

-- where nothing stands before position q, each term is kept
kept_terms :
    {n : ℕ} (p q : ℕ) (w v : FormalSum n) → Each (λ t. IsCongruent p (coefficient w t.0) 0 → ⊥) v
    → ((k : Key n) → k.0 < q → IsCongruent p (coefficient w k) 0) → all_kept (is_from_position q) v ≡ true
kept_terms p q w [] h none = refl
kept_terms p q w (t ∷ v) h none = ap₂ ◌&&◌ (go (cases_lt t.0.0 q)) (kept_terms p q w v h.1 none)
  where
    le : (a b : ℕ) → a ≤ b → nat_le a b ≡ true
    le a b e = grind (arith, nat_tests)

    go : (t.0.0 < q) ⊎ (q ≤ t.0.0) → nat_le q t.0.0 ≡ true
    go (inl lt) = absurd (h.0 (none t.0 lt))
    go (inr e) = le q t.0.0 e

-- and where each term is kept, nothing stands before position q
none_before : {n : ℕ} (q : ℕ) (v : FormalSum n) → all_kept (is_from_position q) v ≡ true → (k : Key n) → k.0 < q → coefficient v k ≡ 0
none_before q [] h k lt = refl
none_before q (t ∷ v) h k lt =
    let a = le_of q t.0.0 (and_left (nat_le q t.0.0) (all_kept (is_from_position q) v) h) in
    let i : indicator k t.0 ≡ 0 = indicator_other k t.0 (λ e. let d = ap (λ z. z.0) e in omega (arith, a, d, lt)) in
    ap₂ (λ x y. t.1 * x + y) i (none_before q v (and_right (nat_le q t.0.0) (all_kept (is_from_position q) v) h) k lt) ∙ omega arith
  where
    le_of : (a b : ℕ) → nat_le a b ≡ true → a ≤ b
    le_of a b e = grind (arith, nat_tests)

module _ (ring : Ring) (q : ℕ) (list done basis : List Terms) (lawful : IsLawful (setting ring (variables ring) (ring_comparison ring (variables ring)) 0)) (low : Each (HasPositions q) list)
    (marks : AreMarked ring q list done) (run : IsReducedBasisOf (position_ring ring) (q + length list) done basis)
    (v rest : Terms) (hv : HasPositions q v) (a : FormalSum (variables ring)) (ha : HasRank (length basis) a)
    (sum : StandsFor ring v (combination (sums_of (variables ring) basis) a ++ sum_of (variables ring) rest))
    (hrest : IsVectorOver (position_ring ring) (ring_comparison (position_ring ring)) rest) (red : IsFreeOfLeads (sums_of (variables ring) basis) (sum_of (variables ring) rest)) where
  abbrev S : Setting (variables ring)
  S = setting ring (variables ring) (ring_comparison ring (variables ring)) 0

  abbrev F : List (FormalSum (variables ring))
  F = sums_of (variables ring) list

  abbrev G : List (FormalSum (variables ring))
  G = sums_of (variables ring) basis

  abbrev T : Setting (variables ring)
  T = position_setting ring (q + length (sums_of (variables ring) list))

  pos : 0 < ring.modulus.value
  pos = positive S lawful

  up : IsLawful T
  up = lawful_by_position ring (q + length F) lawful

  reduced : IsReducedBasis (position_setting ring (q + length list)) (marked q 0 F) G
  reduced = run_reduced ring q list done marks lawful basis run

  f_ranks : Each (HasRank q) F
  f_ranks = ranks ring q list lawful low G reduced

  whole : IsReducedBasis (pot_setting ring.weights ring.modulus.value (q + length F) (comparison ring.order ring.weights (variables ring))) (marked q 0 F) G
  whole = by_length ring q list lawful low G reduced

  differs : IsMember ring.modulus.value (marked q 0 F) (sum_of (variables ring) v ++ scale (ring.modulus.value - 1) (unit (variables ring)) (sum_of (variables ring) rest))
  differs =
      IsMember_same (marked q 0 F) (combination G a) _
      (taken_away ring.modulus.value (sum_of (variables ring) v) (combination G a) (sum_of (variables ring) rest) pos sum)
      (IsMember_combination pos (marked q 0 F) G reduced.reduced.basis.members a (subst (λ m. HasRank m a) (sym (length-map basis (λ v. sum_of (variables ring) v))) ha))

  free : HasFreeTerms T G (sum_of (variables ring) rest)
  free = HasFreeTerms_of_uncovered T G (sum_of (variables ring) rest) red

  v_rank : IsOfRank ring.modulus.value q (sum_of (variables ring) v)
  v_rank = IsOfRank_of ring.modulus.value q (sum_of (variables ring) v) (rank_of_positions (variables ring) q v hv)

  -- a vector of the module leaves nothing before the marks
  pub left_out : all_kept (is_from_position q) (sum_of (variables ring) rest) ≡ false → IsMember ring.modulus.value F (sum_of (variables ring) v) → ⊥
  left_out e m =
      let none = lift_vanishes S (comparison ring.order ring.weights (variables ring)) q F G (sum_of (variables ring) v) (sum_of (variables ring) rest) lawful (comparison_order ring.order ring.weights (variables ring)) f_ranks v_rank whole differs free m in
      let kept = kept_terms ring.modulus.value q (sum_of (variables ring) rest) (sum_of (variables ring) rest) (nonzeros T up (sum_of (variables ring) rest) hrest.descends (residues_of (variables ring) ring.weights ring.modulus.value rest hrest.each)) none in
      let absurdity : true ≡ false = sym kept ∙ e in
      cc

  module _ (kept : all_kept (is_from_position q) (sum_of (variables ring) rest) ≡ true) (u b : Terms) (c : ℕ) (turn : c ≡ (ring.modulus.value - 1) % ring.modulus.value)
      (hu : StandsFor ring u (lowered q (sum_of (variables ring) rest))) (hb : StandsFor ring b (scale c (unit (variables ring)) (sum_of (variables ring) u))) where
    turned : IsSame ring.modulus.value (scale (ring.modulus.value - 1) (unit (variables ring)) (lowered q (sum_of (variables ring) rest))) (sum_of (variables ring) b)
    turned =
        let e : c ≡ ring.modulus.value - 1 = turn ∙ mod-eq_of_lt (omega (arith, pos)) in
        IsSame_sym (IsSame_trans (subst (λ z. IsSame ring.modulus.value (sum_of (variables ring) b) (scale z (unit (variables ring)) (sum_of (variables ring) u))) e hb) (IsSame_scale pos (ring.modulus.value - 1) (unit (variables ring)) hu))

    found : IsLift (position_setting ring (length list)) F (kernel_of q G) (sum_of (variables ring) v) (sum_of (variables ring) b)
    found =
        subst (λ m. IsLift (position_setting ring m) F (kernel_of q G) (sum_of (variables ring) v) (sum_of (variables ring) b)) (count ring q list lawful low G reduced)
        (IsLift_same (position_setting ring (length F)) pos F (kernel_of q G) (sum_of (variables ring) v) _ (sum_of (variables ring) b) turned
        (lift_found S (comparison ring.order ring.weights (variables ring)) q F G (sum_of (variables ring) v) (sum_of (variables ring) rest) lawful (comparison_order ring.order ring.weights (variables ring)) f_ranks v_rank whole differs free
        (λ k lt. IsCongruent_of ring.modulus.value _ 0 (none_before q (sum_of (variables ring) rest) kept k lt))))

    pub lift_of : IsLiftOf ring list v b
    lift_of = record {
      kernel = kernel_of q G;
      basis = kernel_basis ring q list lawful low G reduced;
      syzygies = exact ring q list lawful low G reduced;
      lift = found;
    }

    pub lift_positions : IsVectorOver ring (ring_comparison ring) b → HasPositions (length list) b
    lift_positions h =
        vector_positions ring (ring_comparison ring) 0 (length list) b (sum_of (variables ring) b) lawful h (IsSame_refl ring.modulus.value (sum_of (variables ring) b))
        (subst (λ m. IsOfRank ring.modulus.value m (sum_of (variables ring) b)) (count ring q list lawful low G reduced) found.rank)

-- the stop of the division is the lift's
pub rest_stops :
    (old new : ℕ) (kept kept' : Option StoppedRun) (ring : Ring) (q : ℕ) (list done basis : List Terms) (v : Terms) (stop : WorkStop)
    → (new ≡ old) × (kept' ≡ kept) → AreMarked ring q list done → IsReducedBasisOf (position_ring ring) (q + length list) done basis
    → RestStops ring v basis stop → CallStops (IsMarkedRun ring q list) (IsLiftTrail ring q list v) old new kept kept' (op_stop_of_work stop)
rest_stops old new kept kept' ring q list done basis v works.Memory same marks run h = same
rest_stops old new kept kept' ring q list done basis v (works.Degree t) same marks run h =
    (same.0, same.1, record { done = done; marks = marks; basis = basis; reduced = run; vector = h.0; same = h.1; division = h.2 })

-- the stop of a division of the same vector by position
pub division_rests :
    (ring by : Ring) (v u : Terms) (list : List Terms) (stop : WorkStop) → by ≡ position_ring ring → IsByPosition ring v u → DivisionStops by u list stop → RestStops ring v list stop
division_rests ring by v u list works.Memory e same h = tt
division_rests ring by v u list (works.Degree t) e same h = (u, same, subst (λ r. IsDivisionTrail r u list t) e h)
