-- A list whose terms stand in the graded order, and bases of it in the ring's order
use Rattle.std.proofs.Common.{List, [], arith, get_or, length, length-append, refl, subst, suc, sym, take, zero, ℕ, ◌++◌, ◌+◌, ◌<◌, ◌∷◌, ◌≡◌}
use Rattle.std.proofs.lemmas.List.{length-map}
use Rattle.formal_sums.proofs.Combining.{IsMember_each, IsMember_itself, IsMember_same, IsMember_through}
use Rattle.formal_sums.proofs.OfRank.{IsOfRank_of}
use Rattle.formal_sums.proofs.Sameness.{IsSame_refl, IsSame_sym}
use Rattle.formal_sums.proofs.WeightedSums.{Each_append}
use Rattle.formal_sums.specs.Combinations.{IsSameModule}
use Rattle.formal_sums.specs.FormalSums.{Each, FormalSum, HasRank, IsOfRank, IsSame}
use Rattle.bases.proofs.Leading.{positive}
use Rattle.bases.specs.Bases.{IsReducedBasis}
use Rattle.bases.specs.Settings.{IsLawful, Setting}
use Rattle.reduced_bases.proofs.Comparing.{IsReducedBasis_same, IsSameModule_equal}
use Rattle.monomial_orders.specs.declared.order.Order.TheVariants.{Grevlex}
use Rattle.term_lists.proofs.Scaling.{take_item}
use Rattle.term_lists.proofs.Parts.{Each_member}
use Rattle.term_lists.specs.Rings.{ring_comparison, setting, variables}
use Rattle.term_lists.specs.Vectors.{AreTermsOver, AreVectorsOver, HasPositions, IsTerm, IsVectorOver, sum_of, sums_of}
use Rattle.term_lists.specs.declared.key.Key.{Key as CodeKey}
use Rattle.term_lists.specs.declared.ring.Ring.{Ring}
use Rattle.vector_division.proofs.Members.{sums_at}
use Rattle.groebner_iface.specs.Runs.{IsReducedBasisOf}
use Rattle.order_change.specs.Reordered.{with_order}
use Rattle.degree_engine.specs.Resorted.{AreResorted}

abbrev pub Terms : Type 0
Terms = List (CodeKey × ℕ)

-- ---- the loop
-- the terms of a vector are such of the ring by the graded order
terms_over : (ring : Ring) (v : Terms) → Each (IsTerm (variables ring) ring.weights ring.modulus.value) v → AreTermsOver ring v
terms_over ring [] h = tt
terms_over ring (t ∷ v) h = ((h.0.weighed, h.0.reduced), terms_over ring v h.1)

pub graded_terms :
    (ring graded : Ring) (v copy : Terms) → graded ≡ with_order Grevlex ring → copy ≡ v
    → IsVectorOver ring (ring_comparison ring) v → AreTermsOver graded copy
graded_terms ring graded v copy is same h =
    subst (λ g. AreTermsOver g copy) (sym is) (subst (AreTermsOver (with_order Grevlex ring)) (sym same) (terms_over ring v h.each))

pub same_sum :
    (ring graded : Ring) (v copy u : Terms) → graded ≡ with_order Grevlex ring → copy ≡ v
    → IsSame graded.modulus.value (sum_of (variables graded) u) (sum_of (variables graded) copy)
    → IsSame ring.modulus.value (sum_of (variables ring) u) (sum_of (variables ring) v)
same_sum ring graded v copy u is same h =
    subst (λ w. IsSame ring.modulus.value (sum_of (variables ring) u) (sum_of (variables ring) w)) same
    (subst (λ g. IsSame g.modulus.value (sum_of (variables g) u) (sum_of (variables g) copy)) is h)

-- two lists that agree one by one, and one more item of each
paired :
    {X : Type 0} (R : X → X → Type 0) (d : X) (new list : List X) (u v : X) → length new ≡ length list
    → ((i : ℕ) → R (get_or new i d) (get_or list i d)) → R u v → (i : ℕ) → R (get_or (new ++ u ∷ []) i d) (get_or (list ++ v ∷ []) i d)
paired R d [] [] u v e h same zero = same
paired R d [] [] u v e h same (suc i) = h i
paired R d [] (y ∷ list) u v e h same i = absurd (omega (arith, e))
paired R d (x ∷ new) [] u v e h same i = absurd (omega (arith, e))
paired R d (x ∷ new) (y ∷ list) u v e h same zero = h zero
paired R d (x ∷ new) (y ∷ list) u v e h same (suc i) = paired R d new list u v (omega (arith, e)) (λ j. h (suc j)) same i

pub resorted_none : (ring : Ring) → AreResorted ring [] []
resorted_none ring = record { long = refl; each = λ i. IsSame_refl ring.modulus.value [] }

resorted_next :
    (ring : Ring) (list new : List Terms) (v u : Terms) → AreResorted ring list new
    → IsSame ring.modulus.value (sum_of (variables ring) u) (sum_of (variables ring) v) → AreResorted ring (list ++ v ∷ []) (new ++ u ∷ [])
resorted_next ring list new v u h same = record {
  long = let l = h.long in omega (arith, l, length-append new (u ∷ []), length-append list (v ∷ []));
  each = paired (λ x y. IsSame ring.modulus.value (sum_of (variables ring) x) (sum_of (variables ring) y)) [] new list u v h.long h.each same;
}

pub resorted_more :
    (ring : Ring) (list new : List Terms) (i : ℕ) (v u : Terms) → i < length list → v ≡ get_or list i v → AreResorted ring (take i list) new
    → IsSame ring.modulus.value (sum_of (variables ring) u) (sum_of (variables ring) v) → AreResorted ring (take (i + 1) list) (new ++ u ∷ [])
resorted_more ring list new i v u lt is h same =
    subst (λ xs. AreResorted ring xs (new ++ u ∷ [])) (sym (take_item list i v lt is)) (resorted_next ring (take i list) new v u h same)

pub vectors_more :
    (ring : Ring) (new : List Terms) (u : Terms) → AreVectorsOver ring (ring_comparison ring) new → IsVectorOver ring (ring_comparison ring) u
    → AreVectorsOver ring (ring_comparison ring) (new ++ u ∷ [])
vectors_more ring new u h g = Each_append (IsVectorOver ring (ring_comparison ring)) new (u ∷ []) h (g, tt)

-- ---- bases
-- a reduced basis is that of its own module
reduced_itself : {n : ℕ} (S : Setting n) → IsLawful S → (F G : List (FormalSum n)) → IsReducedBasis S F G → IsReducedBasis S G G
reduced_itself S lawful F G r = record {
  reduced = record {
    basis = record {
      members = IsMember_itself S.modulus G;
      covers = λ v k m lead. r.reduced.basis.covers v k (IsMember_through (positive S lawful) F G r.reduced.basis.members v m) lead;
    };
    normal = r.reduced.normal;
    monic = r.reduced.monic;
    apart = r.reduced.apart;
  };
  descends = r.descends;
}

pub basis_itself :
    (ring : Ring) (rank : ℕ) (list basis : List Terms) → IsLawful (setting ring (variables ring) (ring_comparison ring (variables ring)) rank)
    → IsReducedBasisOf ring rank list basis → IsReducedBasisOf ring rank basis basis
basis_itself ring rank list basis lawful h = record {
  vectors = h.vectors;
  positions = h.positions;
  basis =
      let n = variables ring in
      reduced_itself (setting ring n (ring_comparison ring n) rank) lawful (sums_of n list) (sums_of n basis) h.basis;
}

rank_of_positions : (n m : ℕ) (v : Terms) → HasPositions m v → HasRank m (sum_of n v)
rank_of_positions n m [] h = tt
rank_of_positions n m (t ∷ v) h = (h.0, rank_of_positions n m v h.1)

-- the vectors of a list with these positions are of this rank
ranks :
    (p n m : ℕ) (list : List Terms) → Each (HasPositions m) list
    → (i : ℕ) → i < length (sums_of n list) → IsOfRank p m (get_or (sums_of n list) i [])
ranks p n m list h i lt =
    let lt' : i < length list = subst (λ z. i < z) (length-map list (λ v. sum_of n v)) lt in
    subst (IsOfRank p m) (sym (sums_at n list i))
    (IsOfRank_of p m (sum_of n (get_or list i [])) (rank_of_positions n m (get_or list i []) (Each_member (HasPositions m) list i [] h lt')))

-- lists that are the same vectors one by one generate one module
one_module : (ring : Ring) (list resorted : List Terms) → AreResorted ring list resorted
    → IsSameModule ring.modulus.value (sums_of (variables ring) resorted) (sums_of (variables ring) list)
one_module ring list resorted h =
    let n = variables ring in
    let p = ring.modulus.value in
    let F = sums_of n list in
    let H = sums_of n resorted in
    record {
      inside = λ i lt. IsMember_same F (get_or F i []) (get_or H i []) (IsSame_sym (same i)) (IsMember_each p F i);
      outside = λ i lt. IsMember_same H (get_or H i []) (get_or F i []) (same i) (IsMember_each p H i);
    }
  where
    same : (i : ℕ) → IsSame ring.modulus.value (get_or (sums_of (variables ring) resorted) i []) (get_or (sums_of (variables ring) list) i [])
    same i =
        let n = variables ring in
        subst (λ g. IsSame ring.modulus.value g (get_or (sums_of n list) i [])) (sym (sums_at n resorted i))
        (subst (λ g. IsSame ring.modulus.value (sum_of n (get_or resorted i [])) g) (sym (sums_at n list i)) (h.each i))

-- the lawful setting of polynomials
abbrev pub HasLawfulSetting : Ring → Type 0
HasLawfulSetting ring = IsLawful (setting ring (variables ring) (ring_comparison ring (variables ring)) 1)

changed_graded :
    (ring : Ring) (list resorted basis answer : List Terms)
    → HasLawfulSetting ring → AreResorted ring list resorted → Each (HasPositions 1) resorted → HasLawfulSetting (with_order Grevlex ring)
    → IsReducedBasisOf (with_order Grevlex ring) 1 resorted basis → IsReducedBasisOf (with_order ring.order (with_order Grevlex ring)) 1 basis answer
    → IsReducedBasisOf ring 1 list answer
changed_graded ring list resorted basis answer lawful same positions graded h new =
    let n = variables ring in
    let p = ring.modulus.value in
    let S = setting ring n (ring_comparison ring n) 1 in
    let T = setting (with_order Grevlex ring) n (ring_comparison (with_order Grevlex ring) n) 1 in
    let F = sums_of n list in
    let H = sums_of n resorted in
    let B = sums_of n basis in
    let generated : IsSameModule p B H =
    IsSameModule_equal T graded B H B B (ranks p n 1 basis h.positions) (ranks p n 1 resorted positions) (reduced_itself T graded H B h.basis) h.basis refl in
    record {
      vectors = new.vectors;
      positions = new.positions;
      basis =
          IsReducedBasis_same S lawful H F (sums_of n answer) (one_module ring list resorted same)
          (IsReducedBasis_same S lawful B H (sums_of n answer) generated new.basis);
    }

-- the basis of the list by that of the list in the graded order
pub changed_basis :
    (ring graded : Ring) (list resorted basis answer : List Terms) → graded ≡ with_order Grevlex ring
    → HasLawfulSetting ring → AreResorted ring list resorted → Each (HasPositions 1) resorted → HasLawfulSetting graded
    → IsReducedBasisOf graded 1 resorted basis → IsReducedBasisOf (with_order ring.order graded) 1 basis answer
    → IsReducedBasisOf ring 1 list answer
changed_basis ring graded list resorted basis answer is lawful same positions =
    subst
    (λ g. HasLawfulSetting g → IsReducedBasisOf g 1 resorted basis → IsReducedBasisOf (with_order ring.order g) 1 basis answer
    → IsReducedBasisOf ring 1 list answer)
    (sym is) (changed_graded ring list resorted basis answer lawful same positions)
