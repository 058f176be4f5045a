-- The rows of one pair
use Rattle.std.proofs.Common.{Less, List, [], append-nil, arith, get_or, length, map, refl, subst, sym, ℕ, ◌++◌, ◌<◌, ◌∙◌, ◌∷◌, ◌≡◌}
use Rattle.formal_sums.proofs.Combining.{IsSame_combination}
use Rattle.formal_sums.proofs.Sameness.{IsSame_of, IsSame_sym, IsSame_trans}
use Rattle.formal_sums.specs.Combinations.{combination}
use Rattle.formal_sums.specs.FormalSums.{Each, FormalSum, IsSame}
use Rattle.bases.proofs.Leading.{positive}
use Rattle.bases.specs.Leads.{head_key}
use Rattle.bases.specs.Representations.{IsLower, IsSumBelow, s_vector}
use Rattle.bases.specs.Settings.{Setting}
use Rattle.term_lists.proofs.NormalVectors.{vector_lead}
use Rattle.term_lists.specs.Rings.{ring_comparison, variables}
use Rattle.term_lists.specs.Vectors.{StandsFor, key_of, sum_of, sums_of}
use Rattle.term_lists.specs.declared.key.Key.{Key as CodeKey}
use Rattle.pair_criteria.specs.declared.pair.Pair.{Pair as CodePair}
use Rattle.vector_division.specs.Reductions.{cofactors_of, unscaled}
use Rattle.vector_division.specs.declared.reduction.ScaledProduct.{ScaledProduct}
use Rattle.basis_steps.proofs.Answering.{rest_represents}
use Rattle.basis_steps.specs.Criteria.{IsPair, IsRepresented, lcm_of}
use Rattle.basis_steps.specs.Outcomes.{AreJobProducts}
use Rattle.basis_steps.specs.States.{vectors}
use Rattle.member_products.specs.Generators.{IsVectorOf}
use Rattle.basis_core.proofs.Tracking.{vectors_over}
use Rattle.basis_core.specs.Jobs.{index_pair_of}
use Rattle.basis_core.specs.Members.{IsMemberShown, MembersShown, members_of, reduct_row_of, setting_of}
use Rattle.basis_core.specs.Outcomes.{indexed_products_of}
use Rattle.basis_core.specs.Rows.{vectors_in}
use Rattle.s_vectors.proofs.Listed.{row_listed}
use Rattle.s_vectors.proofs.Lists.{vectors_are}
use Rattle.s_vectors.proofs.Making.{count_here, job_steps}
use Rattle.s_vectors.proofs.TopParts.{shared_lawful}
use Rattle.s_vectors.specs.Divided.{AreOfPair, IsDivided}
use Rattle.s_vectors.specs.Solutions.{IsSolved}

module _ (m : MembersShown) (x : CodePair) (of : AreOfPair m x) (tracked : Each (IsMemberShown m.shared) m.list) (parts : List ScaledProduct) where
  -- the pair is one of the sums' list
  real_sums : IsPair (sums_of (variables m.shared.ring) (vectors_in m.list)) (index_pair_of x)
  real_sums = subst (λ G. IsPair G (index_pair_of x)) (vectors_are (variables m.shared.ring) m.list) of.real

  lcm_is : key_of (variables m.shared.ring) x.lcm ≡ lcm_of (sums_of (variables m.shared.ring) (vectors_in m.list)) (index_pair_of x)
  lcm_is = subst (λ G. key_of (variables m.shared.ring) x.lcm ≡ lcm_of G (index_pair_of x)) (vectors_are (variables m.shared.ring) m.list) of.lcm.lcm

  pair_products :
      (v : List (CodeKey × ℕ)) → IsDivided m x parts v
      → AreJobProducts m.shared.ring.modulus.value (vectors (members_of (variables m.shared.ring) m.list)) (index_pair_of x ∷ []) (indexed_products_of (variables m.shared.ring) (map unscaled parts))
  pair_products v d =
      let n = variables m.shared.ring in
      subst (λ G. AreJobProducts m.shared.ring.modulus.value G (index_pair_of x ∷ []) (indexed_products_of n (map unscaled parts))) (sym (vectors_are n m.list))
      (job_steps (setting_of n m.shared) (shared_lawful n m.shared) (vectors_in m.list) (vectors_over m.shared m.list tracked) (index_pair_of x) (key_of n x.lcm) (map unscaled parts) lcm_is d.products)

  -- nothing is left
  pub solved_zero :
      IsDivided m x parts []
      → IsSolved (setting_of (variables m.shared.ring) m.shared) (vectors (members_of (variables m.shared.ring) m.list)) (index_pair_of x ∷ []) [] (indexed_products_of (variables m.shared.ring) (map unscaled parts))
  solved_zero d =
      let n = variables m.shared.ring in
      let S : Setting (variables m.shared.ring) = setting_of (variables m.shared.ring) m.shared in
      record {
        represented = (
          subst (λ G. IsRepresented S G (index_pair_of x)) (sym (append-nil (vectors (members_of n m.list)) ∙ vectors_are n m.list)) (
              subst (λ k. IsSumBelow S (sums_of n (vectors_in m.list)) k (s_vector m.shared.ring.modulus.value (get_or (sums_of n (vectors_in m.list)) x.i []) (get_or (sums_of n (vectors_in m.list)) x.j []))) lcm_is (record {
                cofactors = d.left.lower;
                below = d.left.below;
                sums = IsSame_trans (IsSame_of m.shared.ring.modulus.value _ _ (sym (append-nil (combination (sums_of n (vectors_in m.list)) d.left.lower)))) d.left.whole;
              })
              ),
          tt,
        );
        few = omega arith;
        low = tt;
        job_products = pair_products [] d;
        sums = tt;
      }

  -- the lead of what is left
  lead_low :
      (v : List (CodeKey × ℕ))
      → IsDivided m x parts v → 0 < length v
      → ring_comparison m.shared.ring (variables m.shared.ring) (head_key (sum_of (variables m.shared.ring) v)) (key_of (variables m.shared.ring) x.lcm) ≡ Less
  lead_low [] d some = absurd (omega arith)
  lead_low (t ∷ v) d some = d.left.low (key_of (variables m.shared.ring) t.0) (vector_lead m.shared.ring (ring_comparison m.shared.ring) m.shared.rank t v (shared_lawful (variables m.shared.ring) m.shared) d.vector)

  -- something is left, which with these products is a row
  pub solved_row :
      (v products : List (CodeKey × ℕ))
      → IsDivided m x parts v → 0 < length v → IsVectorOf m.shared.ring products
      → StandsFor m.shared.ring products (cofactors_of (variables m.shared.ring) parts)
      → IsSolved (setting_of (variables m.shared.ring) m.shared) (vectors (members_of (variables m.shared.ring) m.list)) (index_pair_of x ∷ [])
      (reduct_row_of (variables m.shared.ring) (record { vector = v; products = products }) ∷ []) (indexed_products_of (variables m.shared.ring) (map unscaled parts))
  solved_row v products d some iv same =
      let n = variables m.shared.ring in
      let S : Setting (variables m.shared.ring) = setting_of (variables m.shared.ring) m.shared in
      let lawful = shared_lawful n m.shared in
      let G : List (FormalSum (variables m.shared.ring)) = sums_of (variables m.shared.ring) (vectors_in m.list) in
      record {
        represented = (
          subst (λ H. IsRepresented S (H ++ sum_of n v ∷ []) (index_pair_of x)) (sym (vectors_are n m.list))
              (rest_represents S lawful G (index_pair_of x) d.left.lower (sum_of n v) real_sums
              (subst (λ k. Each (IsLower S G k) d.left.lower) lcm_is d.left.below)
              (subst (λ k. S.compare (head_key (sum_of n v)) k ≡ Less) lcm_is (lead_low v d some)) d.left.whole),
          tt,
        );
        few = omega arith;
        low = (
          λ k lead. (index_pair_of x, count_here (index_pair_of x), subst (λ z. S.compare k z ≡ Less) (of.lcm.lcm) (d.left.low k lead)),
          tt,
        );
        job_products = pair_products v d;
        sums = (
          record {
            alone = refl;
            listed = row_listed m.shared parts products iv same;
            sums = subst (λ H. IsSame m.shared.ring.modulus.value (combination H (sum_of n products)) (sum_of n v)) (sym (vectors_are n m.list))
                (IsSame_trans (IsSame_combination (positive S lawful) G _ _ same) (IsSame_sym d.sum));
          },
          tt,
        );
      }
