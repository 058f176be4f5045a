-- The S-vector as the sum of two parts
use Rattle.std.proofs.Common.{List, [], ap, ap₂, append-nil, arith, get_or, inr, length, map, subst, sym, ℕ, ◌++◌, ◌-◌, ◌<◌, ◌∙◌, ◌∷◌, ◌≡◌}
use Rattle.monomials.specs.Exponents.{Exponents, exponents_of, lcm, quotient}
use Rattle.formal_sums.specs.Combinations.{combination}
use Rattle.formal_sums.specs.FormalSums.{Each, FormalSum, scale, shift}
use Rattle.bases.specs.Leads.{head_key}
use Rattle.bases.specs.Representations.{s_vector}
use Rattle.term_lists.specs.Vectors.{key_of, sum_of, sums_of}
use Rattle.term_lists.specs.declared.key.Key.{Key as CodeKey}
use Rattle.module_vectors.specs.Trails.{HasKey, kept_product_lead, lead_at}
use Rattle.pair_criteria.specs.declared.pair.Pair.{Pair as CodePair}
use Rattle.vector_division.proofs.Members.{sums_at}
use Rattle.vector_division.proofs.Occurring.{Contains_here}
use Rattle.vector_division.specs.Reductions.{cofactors_of, unscaled}
use Rattle.vector_division.specs.declared.reduction.ScaledProduct.{ScaledProduct}
use Rattle.s_vectors.specs.Parts.{ArePairParts, IsPart, IsTopPart}
use Rattle.s_vectors.specs.PairProducts.{ArePairProducts}

-- a vector that is not zero has its first key
head_has : (n : ℕ) (v : List (CodeKey × ℕ)) → 0 < length v → HasKey (sum_of n v) (head_key (sum_of n v))
head_has n [] h = absurd (omega arith)
head_has n (t ∷ v) h = Contains_here (key_of n t.0) (map (λ u. u.0) (sum_of n v))

module _ (n : ℕ) (ws : List ℕ) (p : ℕ) (list : List (List (CodeKey × ℕ))) where
  -- the product of a part has the lcm as its lead
  top_lead :
      (k : CodeKey) (i c : ℕ) (q : ScaledProduct)
      → IsTopPart n ws list k i c q → (lead_at n list i).0 ≡ k.position → kept_product_lead n list (unscaled q) ≡ key_of n k
  top_lead k i c q h at = ap (λ z. shift (exponents_of n q.monomial.exponents) (lead_at n list z)) h.at ∙ ap₂ (λ a b. (a, b)) at h.product

  -- and it is the product of the S-vector
  top_product :
      (k : CodeKey) (i c : ℕ) (q : ScaledProduct) (l : Exponents n)
      → IsTopPart n ws list k i c q → exponents_of n k.monomial.exponents ≡ l
      → scale q.residue (exponents_of n q.monomial.exponents) (get_or (sums_of n list) q.index [])
      ≡ scale c (quotient l (head_key (get_or (sums_of n list) i [])).1) (get_or (sums_of n list) i [])
  top_product k i c q l h e =
      let G : List (FormalSum n) = sums_of n list in
      ap (λ a. scale a (exponents_of n q.monomial.exponents) (get_or G q.index [])) h.residue_is
      ∙ ap (λ z. scale c (exponents_of n q.monomial.exponents) (get_or G z [])) h.at
      ∙ ap (λ m. scale c m (get_or G i [])) (h.exponents ∙ ap₂ quotient e (ap (λ v. (head_key v).1) (sym (sums_at n list i))))

  module _ (x : CodePair) (parts : List ScaledProduct) (two : ArePairParts n ws p list x parts) where
    pub top_steps :
        x.i < length list → x.j < length list → 0 < length (get_or list x.i []) → (lead_at n list x.i).0 ≡ x.lcm.position
        → (lead_at n list x.j).0 ≡ x.lcm.position → ArePairProducts n ws list (key_of n x.lcm) (map unscaled parts)
    top_steps hi hj some at_i at_j =
        let one = top_lead x.lcm x.i 1 two.left two.first at_i in
        let other = top_lead x.lcm x.j (p - 1) two.right two.second at_j in
        subst (λ l. ArePairProducts n ws list (key_of n x.lcm) (map unscaled l)) (sym two.two) (record {
          known = (subst (λ z. z < length list) (sym two.first.at) hi, (subst (λ z. z < length list) (sym two.second.at) hj, tt));
          weighed = (two.first.weighed, (two.second.weighed, tt));
          linked = (
            one,
            (
              inr (
                unscaled two.left,
                Contains_here (unscaled two.left) [],
                (
                  head_key (sum_of n (get_or list two.left.index [])),
                  head_has n (get_or list two.left.index []) (subst (λ z. 0 < length (get_or list z [])) (sym two.first.at) some),
                  other ∙ sym one,
                ),
              ),
              tt,
            ),
          );
        })

    pub top_each : 1 < p → x.i < length list → x.j < length list → Each (IsPart n ws p (length list)) parts
    top_each one hi hj =
        subst (Each (IsPart n ws p (length list))) (sym two.two) (
          record { index = subst (λ z. z < length list) (sym two.first.at) hi; weighed = two.first.weighed; reduced = subst (λ z. z < p) (sym two.first.residue_is) one },
          (
            record { index = subst (λ z. z < length list) (sym two.second.at) hj; weighed = two.second.weighed; reduced = subst (λ z. z < p) (sym two.second.residue_is) (omega arith) },
            tt,
          ),
        )

    pub top_sum :
        exponents_of n x.lcm.monomial.exponents ≡ lcm (lead_at n list x.i).1 (lead_at n list x.j).1
        → combination (sums_of n list) (cofactors_of n parts) ≡ s_vector p (get_or (sums_of n list) x.i []) (get_or (sums_of n list) x.j [])
    top_sum e =
        let G : List (FormalSum n) = sums_of n list in
        let l : Exponents n = lcm (head_key (get_or G x.i [])).1 (head_key (get_or G x.j [])).1 in
        let el : exponents_of n x.lcm.monomial.exponents ≡ l = e ∙ ap₂ (λ a b. lcm (head_key a).1 (head_key b).1) (sym (sums_at n list x.i)) (sym (sums_at n list x.j)) in
        ap (λ z. combination G (cofactors_of n z)) two.two
        ∙ ap₂ ◌++◌ (top_product x.lcm x.i 1 two.left l two.first el) (append-nil _ ∙ top_product x.lcm x.j (p - 1) two.right l two.second el)
