-- What the operations share: counts of runs, lists of vectors, and bases of the vectors with a property
use Rattle.std.proofs.Common.{List, [], ap, arith, get_or, length, refl, subst, suc, sym, take}
use Rattle.std.proofs.Common.{zero, ℕ, ◌++◌, ◌+◌, ◌<◌, ◌∙◌, ◌∷◌, ◌≡◌, ◌≤◌, ap₂, append_assoc}
use Rattle.std.proofs.lemmas.List.{take_more}
use Rattle.std.specs.Prelude.{◌↔◌}
use Rattle.formal_sums.proofs.Combining.{Each_map, IsMember_itself}
use Rattle.formal_sums.proofs.WeightedSums.{Each_append}
use Rattle.formal_sums.specs.Combinations.{IsMember, IsSameModule}
use Rattle.formal_sums.specs.FormalSums.{Each, HasRank}
use Rattle.bases.specs.Bases.{IsReducedBasis}
use Rattle.bases.specs.Settings.{IsLawful, Setting}
use Rattle.reduced_bases.proofs.Comparing.{IsReducedBasis_same}
use Rattle.division_laws.specs.Elimination.{has_none_of_first}
use Rattle.operation_laws.proofs.Plain.{eliminate_plain}
use Rattle.operation_laws.proofs.RankFacts.{eliminated_rank}
use Rattle.operation_laws.proofs.Running.{lawful_elimination}
use Rattle.operation_laws.specs.Operations.{IsCombinationOfKept, eliminated, elimination_setting}
use Rattle.term_lists.specs.Rings.{ring_comparison, setting, variables}
use Rattle.term_lists.specs.Vectors.{AreTermsOver, HasPositions, HasVariables, sum_of, sums_of}
use Rattle.term_lists.specs.declared.ring.Ring.{Ring}
use Rattle.risen_counts.specs.Counts.{RoseAtMost, next_count}
use Rattle.groebner_iface.specs.Runs.{IsReducedBasisOf}
use Rattle.syzygy_engine.specs.Answers.{IsBasisOfThose}
use Rattle.syzygy_engine.specs.Runs.{AreVectorsFor}
use Rattle.syzygy_engine.proofs.RunAnswers.{members_of_run, own_basis}
use Rattle.syzygy_engine.proofs.Standing.{Terms, ranks_of_positions, stand_module}
use Rattle.syzygy_engine.proofs.VectorLists.{positions_for}
use Rattle.ideal_ops.specs.Answers.{HaveSameMembers}
use Rattle.ideal_ops.specs.Runs.{elimination_ring}

-- ---- runs
-- one run and one more
pub run_more : (before between now : ℕ) → RoseAtMost 1 before between → now ≡ next_count between → RoseAtMost 2 before now
run_more before between now a next = record {
  times = suc a.times;
  within = let few : a.times ≤ 1 = a.within in omega (arith, few);
  counted = next ∙ ap next_count a.counted;
}

pub two_runs : (before between now : ℕ) → between ≡ next_count before → now ≡ next_count between → RoseAtMost 2 before now
two_runs before between now first next = record { times = 2; within = omega arith; counted = next ∙ ap next_count first }

-- ---- lists
pub of_terms : (ring : Ring) (v : Terms) → AreTermsOver ring v → Each (HasVariables (variables ring)) v
of_terms ring v h = Each_map _ (HasVariables (variables ring)) v (λ t k. k.0.variables) h

pub sums-append : (n : ℕ) (list more : List Terms) → sums_of n (list ++ more) ≡ sums_of n list ++ sums_of n more
sums-append n [] more = refl
sums-append n (v ∷ list) more = ap (λ z. sum_of n v ∷ z) (sums-append n list more)

pub both_positions : (m : ℕ) (left right : List Terms) → Each (HasPositions m) left → Each (HasPositions m) right → Each (HasPositions m) (left ++ right)
both_positions m left right h k = Each_append (HasPositions m) left right h k

module _ (ring : Ring) (rank : ℕ) (lawful : IsLawful (setting ring (variables ring) (ring_comparison ring (variables ring)) rank)) where
  abbrev S : Setting (variables ring)
  S = setting ring (variables ring) (ring_comparison ring (variables ring)) rank

  -- ---- answers
  pub basis_of_sum :
      (left right answer : List Terms) → Each (HasPositions rank) left → Each (HasPositions rank) right → IsReducedBasisOf ring rank (left ++ right) answer
      → IsBasisOfThose ring rank (IsMember ring.modulus.value (sums_of (variables ring) left ++ sums_of (variables ring) right)) answer
  basis_of_sum left right answer h k run = record {
    basis = own_basis ring rank lawful (left ++ right) answer (both_positions rank left right h k) run;
    members = λ v. subst (λ F. IsMember ring.modulus.value (sums_of (variables ring) answer) v ↔ IsMember ring.modulus.value F v) (sums-append (variables ring) left right) (members_of_run ring rank lawful (left ++ right) answer (both_positions rank left right h k) run v);
  }

  -- ---- two modules
  pub members_of_one :
      (left right answer : List Terms) → Each (HasPositions rank) left → Each (HasPositions rank) right → IsReducedBasisOf ring rank left answer → IsReducedBasisOf ring rank right answer
      → HaveSameMembers ring.modulus.value (sums_of (variables ring) left) (sums_of (variables ring) right)
  members_of_one left right answer h k a b = λ v. (
    λ m. (members_of_run ring rank lawful right answer k b v).0 ((members_of_run ring rank lawful left answer h a v).1 m),
    λ m. (members_of_run ring rank lawful left answer h a v).0 ((members_of_run ring rank lawful right answer k b v).1 m),
  )

  pub one_of_members :
      (left right first second : List Terms) → IsReducedBasisOf ring rank left first → IsReducedBasisOf ring rank right second
      → HaveSameMembers ring.modulus.value (sums_of (variables ring) left) (sums_of (variables ring) right) → IsReducedBasis S (sums_of (variables ring) left) (sums_of (variables ring) second)
  one_of_members left right first second a b same =
      IsReducedBasis_same S lawful (sums_of (variables ring) right) (sums_of (variables ring) left) (sums_of (variables ring) second)
      (record {
        inside = λ i lt. (same _).1 (IsMember_itself ring.modulus.value (sums_of (variables ring) right) i lt);
        outside = λ i lt. (same _).0 (IsMember_itself ring.modulus.value (sums_of (variables ring) left) i lt);
      })
      b.basis

  -- ---- elimination
  pub free_ranks : (k : ℕ) (r : Ring) (list basis : List Terms) → IsReducedBasisOf r rank list basis → Each (HasRank rank) (eliminated k (sums_of (variables ring) basis))
  free_ranks k r list basis run = eliminated_rank rank k (sums_of (variables ring) basis) (ranks_of_positions (variables ring) rank basis run.positions)

  pub basis_of_elimination :
      (k : ℕ) (list sorted basis free answer : List Terms) → Each (HasPositions rank) list
      → AreVectorsFor (elimination_ring k ring) (sums_of (variables ring) list) sorted → IsReducedBasisOf (elimination_ring k ring) rank sorted basis
      → AreVectorsFor ring (eliminated k (sums_of (variables ring) basis)) free → IsReducedBasisOf ring rank free answer
      → IsBasisOfThose ring rank (IsCombinationOfKept ring.modulus.value (has_none_of_first k) (sums_of (variables ring) list)) answer
  basis_of_elimination k list sorted basis free answer h moved first kept second = record {
    basis = own_basis ring rank lawful free answer (positions_for ring rank lawful free (eliminated k (sums_of (variables ring) basis)) kept (free_ranks k (elimination_ring k ring) sorted basis first)) second;
    members = λ v. eliminate_plain S ring.weights k (sums_of (variables ring) list) (sums_of (variables ring) basis) (sums_of (variables ring) answer) v lawful (ranks_of_positions (variables ring) rank list h)
        (IsReducedBasis_same (elimination_setting ring.weights (variables ring) k S) (lawful_elimination ring.weights (variables ring) k S lawful) (sums_of (variables ring) sorted) (sums_of (variables ring) list) (sums_of (variables ring) basis) first_same first.basis)
        (IsReducedBasis_same S lawful (sums_of (variables ring) free) (eliminated k (sums_of (variables ring) basis)) (sums_of (variables ring) answer) (stand_module ring free (eliminated k (sums_of (variables ring) basis)) kept.stand) second.basis);
  }
    where
      first_same : IsSameModule ring.modulus.value (sums_of (variables ring) sorted) (sums_of (variables ring) list)
      first_same = stand_module ring sorted (sums_of (variables ring) list) (record { count = moved.stand.count; each = moved.stand.each })

-- the sorted list has the positions of the list
pub sorted_positions :
    (ring : Ring) (rank k : ℕ) (list sorted : List Terms) → IsLawful (setting ring (variables ring) (ring_comparison ring (variables ring)) rank) → Each (HasPositions rank) list
    → AreVectorsFor (elimination_ring k ring) (sums_of (variables ring) list) sorted → Each (HasPositions rank) sorted
sorted_positions ring rank k list sorted lawful h moved =
    positions_for (elimination_ring k ring) rank (lawful_elimination ring.weights (variables ring) k (setting ring (variables ring) (ring_comparison ring (variables ring)) rank) lawful) sorted (sums_of (variables ring) list) moved (ranks_of_positions (variables ring) rank list h)

-- ---- one vector more
pub take_next :
    (n : ℕ) (items : List Terms) (i : ℕ) (x : Terms) → i < length items → x ≡ get_or items i x
    → sums_of n (take (i + 1) items) ≡ sums_of n (take i items) ++ sum_of n x ∷ []
take_next n items i x lt e =
    let s : i + 1 ≡ suc i = omega arith in
    ap (λ z. sums_of n (take z items)) s ∙ go items i lt e
  where
    go : (items : List Terms) (i : ℕ) → i < length items → x ≡ get_or items i x → sums_of n (take (suc i) items) ≡ sums_of n (take i items) ++ sum_of n x ∷ []
    go [] i lt e = absurd (omega arith)
    go (y ∷ ys) zero lt e = ap (λ z. sum_of n z ∷ []) (sym e)
    go (y ∷ ys) (suc i) lt e = ap (λ z. sum_of n y ∷ z) (go ys i (omega arith) e)

-- one vector more of a list behind another
pub one_more :
    (left items old new : List Terms) (i : ℕ) (x y : Terms) → i < length items → x ≡ get_or items i x → new ≡ old ++ y ∷ [] → y ≡ x
    → old ≡ left ++ take i items → new ≡ left ++ take (i + 1) items
one_more left items old new i x y lt is e same h =
    let next : take (i + 1) items ≡ take i items ++ x ∷ [] = take_more items i x lt ∙ ap (λ z. take i items ++ z ∷ []) (sym is) in
    e ∙ ap₂ (λ l z. l ++ z ∷ []) h same ∙ append_assoc left (take i items) (x ∷ []) ∙ ap (λ l. left ++ l) (sym next)
