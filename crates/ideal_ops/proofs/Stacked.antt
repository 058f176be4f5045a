-- Vectors in blocks of positions, and the runs of a colon
use Rattle.std.proofs.Common.{Err, IfErr, List, Ok, Option, Result, [], ap, append-nil, append_assoc, ap₂, arith, get_or, length, map, refl, subst, subst₂, suc, sym, take, zero, ℕ, ◌*◌, ◌++◌, ◌+◌, ◌<◌, ◌∙◌, ◌∷◌, ◌≡◌}
use Rattle.std.proofs.lemmas.List.{get_or_default, length-map, length-take-le, map-append}
use Rattle.monomials.specs.Exponents.{exponents_of}
use Rattle.formal_sums.proofs.Combining.{IsMember_through}
use Rattle.formal_sums.proofs.OfRank.{kept}
use Rattle.formal_sums.proofs.WeightedSums.{Each_append}
use Rattle.formal_sums.specs.Combinations.{IsMember}
use Rattle.formal_sums.specs.FormalSums.{Each, FormalSum, IsOfRank, product}
use Rattle.bases.proofs.Leading.{positive}
use Rattle.bases.specs.Settings.{IsLawful}
use Rattle.syzygy_laws.specs.Syzygies.{raised}
use Rattle.operation_laws.proofs.Linear.{Each_at}
use Rattle.operation_laws.proofs.More.{all_of_rank}
use Rattle.operation_laws.specs.Operations.{basis_vector, blocks, stacked}
use Rattle.term_lists.specs.Rings.{ring_comparison, setting, variables}
use Rattle.term_lists.specs.Vectors.{AreTermsOver, HasPositions, IsVectorOver, StandsFor, sum_of, sums_of}
use Rattle.term_lists.specs.declared.ring.Ring.{Ring}
use Rattle.groebner_iface.specs.Calls.{CallStops, NoTrail}
use Rattle.groebner_iface.specs.Runs.{IsReducedBasisOf, StoppedRun}
use Rattle.groebner_iface.specs.declared.stop.OpStop.{OpStop}
use Rattle.syzygy_engine.specs.Answers.{IsBasisOfThose}
use Rattle.syzygy_engine.specs.Modulo.{AreModuloRuns}
use Rattle.syzygy_engine.specs.Runs.{AreVectorsFor, IsRunFor}
use Rattle.syzygy_engine.proofs.Marks.{sum-append}
use Rattle.syzygy_engine.proofs.RunAnswers.{members_of_run, own_basis}
use Rattle.syzygy_engine.proofs.Standing.{Terms, ranks_of_positions, stand_module}
use Rattle.syzygy_engine.proofs.VectorLists.{positions_for, vectors_next}
use Rattle.groebner_iface.proofs.CallingRuns.{more_stops}
use Rattle.ideal_ops.specs.Components.{AreColonRuns, raised_terms}
use Rattle.ideal_ops.proofs.Dividing.{member_rank}
use Rattle.ideal_ops.proofs.Shared.{take_next}

-- ---- terms
pub sum_raised : (n i : ℕ) (v : Terms) → sum_of n (raised_terms i v) ≡ raised i (sum_of n v)
sum_raised n i [] = refl
sum_raised n i (t ∷ v) = ap (λ r. ((i + t.0.position, exponents_of n t.0.monomial.exponents), t.1) ∷ r) (sum_raised n i v)

pub raised_over : (ring : Ring) (i : ℕ) (v : Terms) → AreTermsOver ring v → AreTermsOver ring (raised_terms i v)
raised_over ring i [] h = tt
raised_over ring i (t ∷ v) h = (h.0, raised_over ring i v h.1)

-- ---- one block more
pub stacked_next : {n : ℕ} (m i : ℕ) (C : List (FormalSum n)) (c : FormalSum n) → stacked m i (C ++ c ∷ []) ≡ stacked m i C ++ raised (i + m * length C) c
stacked_next m i [] c = let e : i ≡ i + m * 0 = omega arith in append-nil (raised i c) ∙ ap (λ z. raised z c) e
stacked_next m i (b ∷ C) c =
    let e : m + i + m * length C ≡ i + m * suc (length C) = omega arith in
    ap (λ z. raised i b ++ z) (stacked_next m (m + i) C c ∙ ap (λ z. stacked m (m + i) C ++ raised z c) e)
    ∙ sym (append_assoc (raised i b) (stacked m (m + i) C) _)

pub blocks_next : {n : ℕ} (m i s : ℕ) (F : List (FormalSum n)) → blocks m i (suc s) F ≡ blocks m i s F ++ map (raised (i + m * s)) F
blocks_next m i zero F = let e : i ≡ i + m * 0 = omega arith in append-nil (map (raised i) F) ∙ ap (λ z. map (raised z) F) e
blocks_next m i (suc s) F =
    let e : m + i + m * s ≡ i + m * suc s = omega arith in
    ap (λ z. map (raised i) F ++ z) (blocks_next m (m + i) s F ∙ ap (λ z. blocks m (m + i) s F ++ map (raised z) F) e)
    ∙ sym (append_assoc (map (raised i) F) (blocks m (m + i) s F) _)

-- the terms of one vector more, below the others
pub stacked_step :
    (ring : Ring) (rank j first : ℕ) (by : List Terms) (x old new : Terms) → j < length by → x ≡ get_or by j x → first ≡ rank * j → new ≡ old ++ raised_terms first x
    → Each (AreTermsOver ring) by → AreTermsOver ring old → sum_of (variables ring) old ≡ stacked rank 0 (sums_of (variables ring) (take j by))
    → AreTermsOver ring new × (sum_of (variables ring) new ≡ stacked rank 0 (sums_of (variables ring) (take (j + 1) by)))
stacked_step ring rank j first by x old new lt is at e over h sum =
    let n = variables ring in
    let B = sums_of n (take j by) in
    let count : length B ≡ j = length-map (take j by) (λ v. sum_of n v) ∙ length-take-le j by (omega (arith, lt)) in
    let zero_more : rank * j ≡ 0 + rank * j = omega arith in
    let whole = ap (stacked rank 0) (take_next n by j x lt is) ∙ stacked_next rank 0 B (sum_of n x) in
    let from = at ∙ zero_more ∙ ap (λ z. 0 + rank * z) (sym count) in
    let mine = subst (AreTermsOver ring) (sym (is ∙ get_or_default by j x [] lt)) (Each_at (AreTermsOver ring) [] by over j lt) in (
      subst (AreTermsOver ring) (sym e) (Each_append _ old (raised_terms first x) h (raised_over ring first x mine)),
      ap (sum_of n) e ∙ sum-append n old (raised_terms first x) ∙ ap₂ ◌++◌ sum (sum_raised n first x ∙ ap (λ z. raised z (sum_of n x)) from) ∙ sym whole,
    )

-- one vector more in a block
pub block_step :
    (ring : Ring) (i k : ℕ) (items old new : List Terms) (x u : Terms) (G : List (FormalSum (variables ring))) → k < length items → x ≡ get_or items k x → new ≡ old ++ u ∷ []
    → AreVectorsFor ring (G ++ map (raised i) (sums_of (variables ring) (take k items))) old
    → IsVectorOver ring (ring_comparison ring) u → StandsFor ring u (raised i (sum_of (variables ring) x))
    → AreVectorsFor ring (G ++ map (raised i) (sums_of (variables ring) (take (k + 1) items))) new
block_step ring i k items old new x u G lt is e h vector sum =
    let n = variables ring in
    let M = map (raised i) (sums_of n (take k items)) in
    let next = ap (map (raised i)) (take_next n items k x lt is) ∙ map-append (raised i) (sums_of n (take k items)) (sum_of n x ∷ []) in
    subst₂ (AreVectorsFor ring) (sym (ap (λ z. G ++ z) next ∙ sym (append_assoc G M (raised i (sum_of n x) ∷ [])))) (sym e)
    (vectors_next ring old (G ++ M) u (raised i (sum_of n x)) h vector sum)

-- one block more
pub blocks_step :
    (ring : Ring) (rank j first : ℕ) (F : List (FormalSum (variables ring))) (all : List Terms) → first ≡ rank * j
    → AreVectorsFor ring (blocks rank 0 j F ++ map (raised first) F) all → AreVectorsFor ring (blocks rank 0 (j + 1) F) all
blocks_step ring rank j first F all at h =
    let next : j + 1 ≡ suc j = omega arith in
    let from : rank * j ≡ 0 + rank * j = omega arith in
    let whole = ap (λ z. blocks rank 0 z F) next ∙ blocks_next rank 0 j F ∙ ap (λ z. blocks rank 0 j F ++ map (raised z) F) (sym (at ∙ from)) in
    subst (λ B. AreVectorsFor ring B all) (sym whole) h

-- ---- a list has a vector or none

pub runs_of_none :
    (ring : Ring) (rank : ℕ) (list by : List Terms) → length by ≡ 0 → (r : Ring) (m : ℕ) (l : List Terms)
    → IsRunFor ring 1 (basis_vector 0 ∷ []) r m l → AreColonRuns ring rank list by r m l
runs_of_none ring rank list [] e r m l h = h
runs_of_none ring rank list (c ∷ by) e r m l h = absurd (omega (arith, e))

pub stops_of_none :
    {X : Type 0} (ring : Ring) (rank : ℕ) (list by : List Terms) (old new : ℕ) (kept kept' : Option StoppedRun) → length by ≡ 0 → (r : Result X OpStop)
    → IfErr r (CallStops (IsRunFor ring 1 (basis_vector 0 ∷ [])) NoTrail old new kept kept')
    → IfErr r (CallStops (AreColonRuns ring rank list by) NoTrail old new kept kept')
stops_of_none ring rank list by old new kept kept' e (Ok x) h = h
stops_of_none ring rank list by old new kept kept' e (Err stop) h =
    more_stops old new kept kept' (IsRunFor ring 1 (basis_vector 0 ∷ [])) (AreColonRuns ring rank list by) NoTrail NoTrail
    (runs_of_none ring rank list by e) (λ t k. k) stop h

pub runs_of_some :
    (ring : Ring) (rank : ℕ) (list by : List Terms) → 0 < length by → (r : Ring) (m : ℕ) (l : List Terms)
    → AreModuloRuns ring (rank * length by)
    (stacked rank 0 (sums_of (variables ring) by) ∷ []) (blocks rank 0 (length by) (sums_of (variables ring) list)) r m l
    → AreColonRuns ring rank list by r m l
runs_of_some ring rank list [] lt r m l h = absurd (omega (arith, lt))
runs_of_some ring rank list (c ∷ by) lt r m l h = h

-- ---- the polynomial 1
pub one_positions :
    (ring : Ring) (list : List Terms) → IsLawful (setting ring (variables ring) (ring_comparison ring (variables ring)) 1)
    → AreVectorsFor ring (basis_vector 0 ∷ []) list → Each (HasPositions 1) list
one_positions ring list lawful h = positions_for ring 1 lawful list (basis_vector 0 ∷ []) h ((omega arith, tt), tt)

pub basis_of_one :
    (ring : Ring) (list answer : List Terms) → IsLawful (setting ring (variables ring) (ring_comparison ring (variables ring)) 1)
    → AreVectorsFor ring (basis_vector 0 ∷ []) list → IsReducedBasisOf ring 1 list answer → IsBasisOfThose ring 1 (IsOfRank ring.modulus.value 1) answer
basis_of_one ring list answer lawful h run =
    let n = variables ring in
    let p = ring.modulus.value in
    let low = one_positions ring list lawful h in
    let same = stand_module ring list (basis_vector 0 ∷ []) h.stand in
    record {
      basis = own_basis ring 1 lawful list answer low run;
      members = λ v. (
        λ a. member_rank p 1 (sums_of n answer) (ranks_of_positions n 1 answer run.positions) v a,
        λ r. (members_of_run ring 1 lawful list answer low run v).1
            (IsMember_through (positive (setting ring n (ring_comparison ring n) 1) lawful) (sums_of n list) (basis_vector 0 ∷ []) same.outside v (all_of_rank p v r)),
      );
    }

-- ---- answers
pub colon_of_none :
    (ring : Ring) (list by answer : List Terms) → length by ≡ 0 → IsBasisOfThose ring 1 (IsOfRank ring.modulus.value 1) answer
    → IsBasisOfThose ring 1 (λ v. IsOfRank ring.modulus.value 1 v
    × Each (λ c. IsMember ring.modulus.value (sums_of (variables ring) list) (product v c)) (sums_of (variables ring) by)) answer
colon_of_none ring list [] answer e h = record {
  basis = h.basis;
  members = λ v. (λ a. ((h.members v).0 a, tt), λ b. (h.members v).1 b.0);
}
colon_of_none ring list (c ∷ by) answer e h = absurd (omega (arith, e))
