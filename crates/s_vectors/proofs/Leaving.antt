-- What the division of an S-vector by the members leaves
use Rattle.std.proofs.Common.{Equal, Greater, Less, List, Ordering, [], ap, append-nil, arith, get_or, inr, length, map, mod-lt, refl, subst, sym, ℕ, ◌++◌, ◌+◌, ◌-◌, ◌<◌, ◌∙◌, ◌∷◌, ◌≡◌}
use Rattle.std.proofs.lemmas.List.{length-map}
use Rattle.residues.proofs.Congruences.{IsCongruent_add, IsCongruent_of, IsCongruent_refl, IsCongruent_sym, IsCongruent_trans}
use Rattle.residues.specs.Residues.{IsCongruent}
use Rattle.monomials.specs.Exponents.{exponents_of}
use Rattle.formal_sums.proofs.Combining.{Each_map}
use Rattle.formal_sums.proofs.Sameness.{IsSame_of, IsSame_sym, IsSame_trans}
use Rattle.formal_sums.proofs.WeightedSums.{Each_append, coefficient-append}
use Rattle.formal_sums.specs.Combinations.{combination}
use Rattle.formal_sums.specs.FormalSums.{Each, FormalSum, IsSame, Key, coefficient, scale, shift}
use Rattle.orders.proofs.KeyOrdering.{less_of_greater}
use Rattle.bases.proofs.Leading.{IsLead_same}
use Rattle.bases.proofs.Places.{multiple_above}
use Rattle.bases.proofs.SVectors.{s_vector_below}
use Rattle.bases.specs.Leads.{IsLead, IsMonicList, head_key, leads}
use Rattle.bases.specs.Representations.{IsLower, key_lcm, place, s_vector}
use Rattle.bases.specs.Settings.{IsLawful, Setting}
use Rattle.term_lists.proofs.NormalVectors.{residues_of, vector_lead}
use Rattle.monomial_orders.specs.Kept.{IsWeighed}
use Rattle.term_lists.specs.Rings.{ring_comparison, variables}
use Rattle.term_lists.specs.Vectors.{IsVectorOver, StandsFor, key_of, sum_of, sums_of}
use Rattle.term_lists.specs.declared.key.Key.{Key as CodeKey}
use Rattle.term_lists.specs.declared.ring.Ring.{Ring}
use Rattle.module_vectors.specs.Trails.{AreMet, HasKey, IsMet, kept_product_lead}
use Rattle.pair_criteria.specs.declared.pair.Pair.{Pair as CodePair}
use Rattle.vector_division.proofs.Members.{sums_at}
use Rattle.vector_division.proofs.Occurring.{at_key, occurring}
use Rattle.vector_division.specs.Reductions.{AreMetFrom, HaveLeadsUpTo, IsScaledProduct, cofactors_of, unscaled}
use Rattle.vector_division.specs.declared.reduction.ScaledProduct.{ScaledProduct}
use Rattle.basis_steps.proofs.Sparing.{monic_list}
use Rattle.basis_steps.specs.Criteria.{lcm_of}
use Rattle.basis_steps.specs.Divisions.{IsMonicMember}
use Rattle.basis_core.specs.Jobs.{index_pair_of}
use Rattle.basis_core.specs.Members.{MembersShown, setting_of}
use Rattle.basis_core.specs.Rows.{vectors_in}
use Rattle.s_vectors.proofs.Linking.{key_of_parts, pair_more, quotients_met, steps_through}
use Rattle.s_vectors.proofs.Lists.{length-vectors_in, vectors_are}
use Rattle.s_vectors.proofs.Remainders.{negated_steps, rest_sum}
use Rattle.s_vectors.proofs.Stopping.{products-append}
use Rattle.s_vectors.proofs.TopParts.{lcm_exponents, lcm_position, left_within, member_some, right_within, same_position, shared_lawful}
use Rattle.s_vectors.proofs.TopProducts.{top_each, top_steps, top_sum}
use Rattle.s_vectors.specs.Divided.{AreOfPair, HasKeysMet, IsDivided, IsTopVector, negated}
use Rattle.s_vectors.specs.Parts.{ArePairParts, IsPart}
use Rattle.s_vectors.specs.PairProducts.{ArePairProducts}

-- ---- sums of lower products
module _ {n : ℕ} (S : Setting n) (lawful : IsLawful S) (G : List (FormalSum n)) (monic : IsMonicList S G) where
  -- are 0 where all below k is below
  lower_zero :
      (k l : Key n) (a : FormalSum n)
      → ((y : Key n) → S.compare y k ≡ Less → S.compare y l ≡ Less) → Each (IsLower S G k) a
      → IsCongruent S.modulus (coefficient (combination G a) l) 0
  lower_zero k l [] up h = IsCongruent_refl S.modulus 0
  lower_zero k l (t ∷ a) up h =
      IsCongruent_trans (IsCongruent_of S.modulus _ _ (coefficient-append (scale t.1 t.0.1 (get_or G t.0.0 [])) (combination G a) l))
      (IsCongruent_trans (IsCongruent_add (multiple_above S lawful G monic t l h.0.0 (up (place G t) h.0.1)) (lower_zero k l a up h.1)) (IsCongruent_of S.modulus (0 + 0) 0 refl))

  -- so what is left of a vector with a lower lead has a lower lead
  rest_low :
      (k h : Key n) (v a rest : FormalSum n)
      → IsLead S v h → S.compare h k ≡ Less → Each (IsLower S G k) a → IsSame S.modulus v (combination G a ++ rest)
      → (l : Key n) → IsLead S rest l → S.compare l k ≡ Less
  rest_low k h v a rest lead low lower same l other = go (S.compare l k) refl
    where
      zero_at : ((y : Key n) → S.compare y k ≡ Less → S.compare y l ≡ Less) → ⊥
      zero_at up =
          let vz : IsCongruent S.modulus (coefficient v l) 0 = lead.above l (up h low) in
          let az : IsCongruent S.modulus (coefficient (combination G a) l) 0 = lower_zero k l a up lower in
          let r : ℕ = coefficient rest l in
          other.nonzero (IsCongruent_trans (IsCongruent_of S.modulus r (0 + r) (omega arith))
          (IsCongruent_trans (IsCongruent_add (IsCongruent_sym az) (IsCongruent_refl S.modulus r))
          (IsCongruent_trans (IsCongruent_of S.modulus _ _ (sym (coefficient-append (combination G a) rest l)))
          (IsCongruent_trans (IsCongruent_sym (same.by_key l)) vz))))

      go : (o : Ordering) → S.compare l k ≡ o → S.compare l k ≡ Less
      go Less e = e
      go Equal e = absurd (zero_at (λ y lt. subst (λ z. S.compare y z ≡ Less) (sym (lawful.order.exact l k e)) lt))
      go Greater e = absurd (zero_at (λ y lt. lawful.order.total.trans y k l lt (less_of_greater lawful.order l k e)))

  -- what is not above a lower key is lower
  lower_through : (y h k : Key n) → (S.compare y h ≡ Greater → ⊥) → S.compare h k ≡ Less → S.compare y k ≡ Less
  lower_through y h k ng low = go (S.compare y h) refl
    where
      go : (o : Ordering) → S.compare y h ≡ o → S.compare y k ≡ Less
      go Less e = lawful.order.total.trans y h k e low
      go Equal e = subst (λ z. S.compare z k ≡ Less) (sym (lawful.order.exact y h e)) low
      go Greater e = absurd (ng e)

module _ (m : MembersShown) (x : CodePair) (of : AreOfPair m x) where
  -- the lcm, by the members' leads
  key_is : key_of (variables m.shared.ring) x.lcm ≡ key_lcm (leads (sums_of (variables m.shared.ring) (vectors_in m.list)) x.i) (leads (sums_of (variables m.shared.ring) (vectors_in m.list)) x.j)
  key_is = subst (λ G. key_of (variables m.shared.ring) x.lcm ≡ lcm_of G (index_pair_of x)) (vectors_are (variables m.shared.ring) m.list) of.lcm.lcm

  pub monic_sums : IsMonicList (setting_of (variables m.shared.ring) m.shared) (sums_of (variables m.shared.ring) (vectors_in m.list))
  monic_sums =
      let n = variables m.shared.ring in
      monic_list (setting_of n m.shared) (shared_lawful n m.shared) (sums_of n (vectors_in m.list))
      (subst (Each (IsMonicMember (setting_of n m.shared))) (vectors_are n m.list) of.monic)

  -- the products of the two parts
  pub first_steps :
      (parts : List ScaledProduct)
      → ArePairParts (variables m.shared.ring) m.shared.ring.weights m.shared.ring.modulus.value (vectors_in m.list) x parts
      → ArePairProducts (variables m.shared.ring) m.shared.ring.weights (vectors_in m.list) (key_of (variables m.shared.ring) x.lcm) (map unscaled parts)
  first_steps parts two =
      let n = variables m.shared.ring in
      let li = left_within n m.shared m.list x of.monic of.real of.lcm in
      top_steps n m.shared.ring.weights m.shared.ring.modulus.value (vectors_in m.list) x parts two li (right_within n m.shared m.list x of.monic of.real of.lcm)
      (member_some n m.shared m.list x of.monic of.real of.lcm x.i li)
      (sym (lcm_position n m.shared m.list x of.monic of.real of.lcm))
      (sym (same_position n m.shared m.list x of.monic of.real of.lcm) ∙ sym (lcm_position n m.shared m.list x of.monic of.real of.lcm))

  -- the two parts
  pub first_each :
      (parts : List ScaledProduct)
      → ArePairParts (variables m.shared.ring) m.shared.ring.weights m.shared.ring.modulus.value (vectors_in m.list) x parts
      → Each (IsPart (variables m.shared.ring) m.shared.ring.weights m.shared.ring.modulus.value (length (vectors_in m.list))) parts
  first_each parts two =
      let n = variables m.shared.ring in
      top_each n m.shared.ring.weights m.shared.ring.modulus.value (vectors_in m.list) x parts two (shared_lawful n m.shared).domain.above_one
      (left_within n m.shared m.list x of.monic of.real of.lcm) (right_within n m.shared m.list x of.monic of.real of.lcm)

  module _ (parts : List ScaledProduct) (v : List (CodeKey × ℕ)) (top : IsTopVector m x parts v) where
    -- the vector stands for the S-vector
    is_s_vector :
        IsSame m.shared.ring.modulus.value (sum_of (variables m.shared.ring) v)
        (s_vector m.shared.ring.modulus.value (get_or (sums_of (variables m.shared.ring) (vectors_in m.list)) x.i []) (get_or (sums_of (variables m.shared.ring) (vectors_in m.list)) x.j []))
    is_s_vector =
        let n = variables m.shared.ring in
        IsSame_trans top.sum (IsSame_of m.shared.ring.modulus.value _ _ (top_sum n m.shared.ring.weights m.shared.ring.modulus.value (vectors_in m.list) x parts top.two (lcm_exponents n m.shared m.list x of.monic of.real of.lcm)))

    -- each of its keys is one of the two products
    pub keys_met : HasKeysMet (variables m.shared.ring) v (vectors_in m.list) (map unscaled parts)
    keys_met =
        let n = variables m.shared.ring in
        Each_map _ _ (sum_of n v) (λ u h. inr (key_of_parts n (vectors_in m.list) parts u.0 h))
        (occurring (setting_of n m.shared) (shared_lawful n m.shared) (sum_of n v) (combination (sums_of n (vectors_in m.list)) (cofactors_of n parts)) top.vector.descends (residues_of n m.shared.ring.weights m.shared.ring.modulus.value v top.vector.each) top.sum)

    -- where it is zero, nothing is left
    pub divided_zero : v ≡ [] → IsDivided m x parts []
    divided_zero e =
        let n = variables m.shared.ring in
        let p = m.shared.ring.modulus.value in
        record {
          products = first_steps parts top.two;
          each = subst (λ z. Each (IsPart n m.shared.ring.weights p z) parts) (length-vectors_in m.list) (first_each parts top.two);
          vector = subst (IsVectorOver m.shared.ring (ring_comparison m.shared.ring)) e top.vector;
          sum = subst (λ z. IsSame p (sum_of n z) (combination (sums_of n (vectors_in m.list)) (cofactors_of n parts))) e top.sum;
          left = record {
            lower = [];
            below = tt;
            whole = subst (λ z. IsSame p (sum_of n z) (s_vector p (get_or (sums_of n (vectors_in m.list)) x.i []) (get_or (sums_of n (vectors_in m.list)) x.j []))) e is_s_vector;
            low = λ k lead. absurd (lead.nonzero (IsCongruent_refl p 0));
          };
        }

    -- its lead is below the lcm
    head_lead : 0 < length v → IsLead (setting_of (variables m.shared.ring) m.shared) (sum_of (variables m.shared.ring) v) (head_key (sum_of (variables m.shared.ring) v))
    head_lead some = go v some top.vector
      where
        go :
            (w : List (CodeKey × ℕ)) → 0 < length w → IsVectorOver m.shared.ring (ring_comparison m.shared.ring) w
            → IsLead (setting_of (variables m.shared.ring) m.shared) (sum_of (variables m.shared.ring) w) (head_key (sum_of (variables m.shared.ring) w))
        go [] s h = absurd (omega arith)
        go (t ∷ w) s h = vector_lead m.shared.ring (ring_comparison m.shared.ring) m.shared.rank t w (shared_lawful (variables m.shared.ring) m.shared) h

    head_low : 0 < length v → ring_comparison m.shared.ring (variables m.shared.ring) (head_key (sum_of (variables m.shared.ring) v)) (key_of (variables m.shared.ring) x.lcm) ≡ Less
    head_low some =
        let n = variables m.shared.ring in
        let list = vectors_in m.list in
        let S : Setting (variables m.shared.ring) = setting_of (variables m.shared.ring) m.shared in
        let lw = left_within n m.shared m.list x of.monic of.real of.lcm in
        let rw' = right_within n m.shared m.list x of.monic of.real of.lcm in
        subst (λ k. ring_comparison m.shared.ring n (head_key (sum_of n v)) k ≡ Less) (sym key_is)
        (s_vector_below S (shared_lawful n m.shared) (sums_of n list) monic_sums x.i x.j (sums_within x.i lw) (sums_within x.j rw')
        (subst (λ G. (leads G x.i).0 ≡ (leads G x.j).0) (vectors_are n m.list) of.real.position) (head_key (sum_of n v))
        (IsLead_same S is_s_vector (head_lead some)))
      where
        sums_within : (i : ℕ) → i < length (vectors_in m.list) → i < length (sums_of (variables m.shared.ring) (vectors_in m.list))
        sums_within i h = subst (λ z. i < z) (sym (length-map (vectors_in m.list) (λ w. sum_of (variables m.shared.ring) w))) h

    -- what a division leaves of it
    pub divided :
        (qs all : List ScaledProduct) (rest : List (CodeKey × ℕ))
        → 0 < length v → all ≡ parts ++ map (negated m.shared.ring.modulus.value) qs
        → Each (IsScaledProduct (variables m.shared.ring) m.shared.ring.weights m.shared.ring.modulus.value (vectors_in m.list)) qs
        → AreMetFrom (variables m.shared.ring) (sum_of (variables m.shared.ring) v) (vectors_in m.list) [] qs
        → HaveLeadsUpTo (variables m.shared.ring) (ring_comparison m.shared.ring (variables m.shared.ring)) (vectors_in m.list) (head_key (sum_of (variables m.shared.ring) v)) qs
        → StandsFor m.shared.ring v (combination (sums_of (variables m.shared.ring) (vectors_in m.list)) (cofactors_of (variables m.shared.ring) qs) ++ sum_of (variables m.shared.ring) rest)
        → IsVectorOver m.shared.ring (ring_comparison m.shared.ring) rest
        → IsDivided m x all rest
    divided qs all rest some e hq met up same vector =
        let n = variables m.shared.ring in
        let p = m.shared.ring.modulus.value in
        let list = vectors_in m.list in
        let S : Setting (variables m.shared.ring) = setting_of (variables m.shared.ring) m.shared in
        let lawful = shared_lawful n m.shared in
        let lower : Each (IsLower (setting_of (variables m.shared.ring) m.shared) (sums_of (variables m.shared.ring) (vectors_in m.list)) (key_of (variables m.shared.ring) x.lcm)) (cofactors_of (variables m.shared.ring) qs) = quotients_low qs hq up in
        subst (λ z. IsDivided m x z rest) (sym e) (record {
          products = all_steps;
          each = Each_append (IsPart n m.shared.ring.weights p (length m.list)) parts (map (negated p) qs) (subst (λ z. Each (IsPart n m.shared.ring.weights p z) parts) (length-vectors_in m.list) (first_each parts top.two)) (negated_parts qs hq);
          vector = vector;
          sum = rest_sum n p (sums_of n list) parts qs (sum_of n v) (sum_of n rest) (Each_map _ _ qs (λ q i. i.reduced) hq) top.sum same;
          left = record {
            lower = cofactors_of n qs;
            below = lower;
            whole = IsSame_trans (IsSame_sym same) is_s_vector;
            low = rest_low S lawful (sums_of n list) monic_sums (key_of n x.lcm) (head_key (sum_of n v)) (sum_of n v) (cofactors_of n qs) (sum_of n rest) (head_lead some) (head_low some) lower same;
          };
        })
      where
        negated_parts :
            (ys : List ScaledProduct)
            → Each (IsScaledProduct (variables m.shared.ring) m.shared.ring.weights m.shared.ring.modulus.value (vectors_in m.list)) ys
            → Each (IsPart (variables m.shared.ring) m.shared.ring.weights m.shared.ring.modulus.value (length m.list)) (map (negated m.shared.ring.modulus.value) ys)
        negated_parts [] h = tt
        negated_parts (q ∷ ys) h = (
          record { index = subst (λ z. q.index < z) (length-vectors_in m.list) h.0.index; weighed = h.0.variables; reduced = mod-lt (m.shared.ring.modulus.value - q.residue) (let a = h.0.reduced in omega arith) },
          negated_parts ys h.1,
        )

        quotients_low :
            (ys : List ScaledProduct)
            → Each (IsScaledProduct (variables m.shared.ring) m.shared.ring.weights m.shared.ring.modulus.value (vectors_in m.list)) ys
            → HaveLeadsUpTo (variables m.shared.ring) (ring_comparison m.shared.ring (variables m.shared.ring)) (vectors_in m.list) (head_key (sum_of (variables m.shared.ring) v)) ys
            → Each (IsLower (setting_of (variables m.shared.ring) m.shared) (sums_of (variables m.shared.ring) (vectors_in m.list)) (key_of (variables m.shared.ring) x.lcm)) (cofactors_of (variables m.shared.ring) ys)
        quotients_low [] h u = tt
        quotients_low (q ∷ ys) h u =
            let n = variables m.shared.ring in
            let lead : place (sums_of n (vectors_in m.list)) ((q.index, exponents_of n q.monomial.exponents), q.residue) ≡ kept_product_lead n (vectors_in m.list) (unscaled q) =
            ap (λ z. shift (exponents_of n q.monomial.exponents) (head_key z)) (sums_at n (vectors_in m.list) q.index) in (
              (
                subst (λ z. q.index < z) (sym (length-map (vectors_in m.list) (λ w. sum_of (variables m.shared.ring) w))) h.0.index,
                subst (λ z. ring_comparison m.shared.ring n z (key_of n x.lcm) ≡ Less) (sym lead)
                    (lower_through (setting_of n m.shared) (shared_lawful n m.shared) (sums_of n (vectors_in m.list)) monic_sums (kept_product_lead n (vectors_in m.list) (unscaled q)) (head_key (sum_of n v)) (key_of n x.lcm) u.0 (head_low some)),
              ),
              quotients_low ys h.1 u.1,
            )

        known_products : (ys : List ScaledProduct) → Each (IsScaledProduct (variables m.shared.ring) m.shared.ring.weights m.shared.ring.modulus.value (vectors_in m.list)) ys → Each (λ s. s.0 < length (vectors_in m.list)) (map unscaled ys)
        known_products [] h = tt
        known_products (q ∷ ys) h = (h.0.index, known_products ys h.1)

        steps_weighed : (ys : List ScaledProduct) → Each (IsScaledProduct (variables m.shared.ring) m.shared.ring.weights m.shared.ring.modulus.value (vectors_in m.list)) ys → Each (λ s. IsWeighed (variables m.shared.ring) m.shared.ring.weights s.1) (map unscaled ys)
        steps_weighed [] h = tt
        steps_weighed (q ∷ ys) h = (h.0.variables, steps_weighed ys h.1)

        all_steps : ArePairProducts (variables m.shared.ring) m.shared.ring.weights (vectors_in m.list) (key_of (variables m.shared.ring) x.lcm) (map unscaled (parts ++ map (negated m.shared.ring.modulus.value) qs))
        all_steps =
            let n = variables m.shared.ring in
            let p = m.shared.ring.modulus.value in
            let list = vectors_in m.list in
            let is : map unscaled parts ≡ unscaled top.two.left ∷ unscaled top.two.right ∷ [] = ap (map unscaled) top.two.two in
            let met' : (l : Key (variables m.shared.ring)) → HasKey (sum_of (variables m.shared.ring) v) l → IsMet (variables m.shared.ring) [] (vectors_in m.list) (map unscaled parts) l =
            λ l h. at_key (λ z. IsMet (variables m.shared.ring) [] (vectors_in m.list) (map unscaled parts) z) (sum_of (variables m.shared.ring) v) l keys_met h in
            let behind : AreMet n [] list (map unscaled parts) (map unscaled qs) =
            subst (λ l. AreMet n [] list l (map unscaled qs)) (append-nil (map unscaled parts)) (steps_through n list (sum_of n v) (map unscaled parts) [] (map unscaled qs) met' (quotients_met n list (sum_of n v) [] qs met)) in
            subst (ArePairProducts n m.shared.ring.weights list (key_of n x.lcm)) (sym (products-append parts (map (negated p) qs) ∙ ap (λ l. map unscaled parts ++ l) (negated_steps p qs)))
            (subst (λ l. ArePairProducts n m.shared.ring.weights list (key_of n x.lcm) (l ++ map unscaled qs)) (sym is)
            (pair_more n list m.shared.ring.weights (key_of n x.lcm) (unscaled top.two.left) (unscaled top.two.right ∷ []) (map unscaled qs)
            (subst (ArePairProducts n m.shared.ring.weights list (key_of n x.lcm)) is (first_steps parts top.two)) (known_products qs hq) (steps_weighed qs hq)
            (subst (λ l. AreMet n [] list l (map unscaled qs)) is behind)))

    -- the same, of a ring that is the members'
    pub divided_over :
        (r : Ring) (qs all : List ScaledProduct) (rest : List (CodeKey × ℕ))
        → r ≡ m.shared.ring → 0 < length v → all ≡ parts ++ map (negated r.modulus.value) qs
        → Each (IsScaledProduct (variables r) r.weights r.modulus.value (vectors_in m.list)) qs
        → AreMetFrom (variables r) (sum_of (variables r) v) (vectors_in m.list) [] qs
        → HaveLeadsUpTo (variables r) (ring_comparison r (variables r)) (vectors_in m.list) (head_key (sum_of (variables r) v)) qs
        → StandsFor r v (combination (sums_of (variables r) (vectors_in m.list)) (cofactors_of (variables r) qs) ++ sum_of (variables r) rest)
        → IsVectorOver r (ring_comparison r) rest
        → IsDivided m x all rest
    divided_over r qs all rest e some is hq met up same vector =
        divided qs all rest some (subst (λ (z : Ring). all ≡ parts ++ map (negated z.modulus.value) qs) e is)
        (subst (λ (z : Ring). Each (IsScaledProduct (variables z) z.weights z.modulus.value (vectors_in m.list)) qs) e hq)
        (subst (λ (z : Ring). AreMetFrom (variables z) (sum_of (variables z) v) (vectors_in m.list) [] qs) e met)
        (subst (λ (z : Ring). HaveLeadsUpTo (variables z) (ring_comparison z (variables z)) (vectors_in m.list) (head_key (sum_of (variables z) v)) qs) e up)
        (subst (λ (z : Ring). StandsFor z v (combination (sums_of (variables z) (vectors_in m.list)) (cofactors_of (variables z) qs) ++ sum_of (variables z) rest)) e same)
        (subst (λ (z : Ring). IsVectorOver z (ring_comparison z) rest) e vector)
