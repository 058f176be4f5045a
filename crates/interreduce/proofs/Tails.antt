-- A member with its tail reduced
use Rattle.std.proofs.Common.{Equal, Greater, Less, List, Ordering, [], ap, ap₂, arith, drop, get_or, inl, inr, length, map, refl, subst, suc, sym, take, zero, ℕ, ◌*◌, ◌++◌, ◌+◌, ◌-◌, ◌<◌, ◌∙◌, ◌∷◌, ◌≡◌}
use Rattle.std.proofs.lemmas.List.{length-map}
use Rattle.residues.proofs.Congruences.{IsCongruent_add, IsCongruent_minus, IsCongruent_of, IsCongruent_refl, IsCongruent_trans}
use Rattle.monomials.specs.Exponents.{Exponents, exponents_of, unit}
use Rattle.formal_sums.proofs.Combining.{Each_map, IsMember_append, IsMember_combination, IsMember_each, IsMember_same, IsMember_scale}
use Rattle.formal_sums.proofs.Sameness.{IsSame_append, IsSame_refl, IsSame_sym, shift-unit, weighted_sum-minus}
use Rattle.formal_sums.proofs.WeightedSums.{Each_append, coefficient-append}
use Rattle.formal_sums.specs.Combinations.{IsMember, combination}
use Rattle.formal_sums.specs.FormalSums.{Each, FormalSum, HasRank, IsSame, Key, coefficient, indicator, scale, shift}
use Rattle.orders.proofs.KeyOrdering.{greater_of_less, greater_trans}
use Rattle.orders.specs.KeyOrders.{Descends, IsKeyOrder}
use Rattle.bases.proofs.Leading.{positive}
use Rattle.bases.specs.Leads.{head_key}
use Rattle.bases.specs.Settings.{IsLawful}
use Rattle.term_lists.proofs.NormalVectors.{residues_of}
use Rattle.term_lists.specs.Rings.{setting, variables}
use Rattle.term_lists.specs.Vectors.{AreVectorsOver, IsMonicOf, IsVectorOver, StandsFor, key_of, sum_of, sums_of}
use Rattle.term_lists.specs.declared.key.Key.{Key as CodeKey}
use Rattle.term_lists.specs.declared.ring.Ring.{Ring}
use Rattle.module_vectors.specs.Trails.{IsMet, kept_product_lead}
use Rattle.vector_division.proofs.Members.{sums_at}
use Rattle.vector_division.proofs.Occurring.{at_key, occurring}
use Rattle.vector_division.proofs.Subtracting.{none_above, up_to_trans}
use Rattle.vector_division.specs.Divisions.{IsFreeOfLeads, IsUncovered}
use Rattle.vector_division.specs.Reductions.{AreMetFrom, HaveLeadsUpTo, IsScaledProduct, cofactors_of, unscaled}
use Rattle.vector_division.specs.declared.reduction.ScaledProduct.{ScaledProduct}
use Rattle.interreduce.specs.Members.{HasReducedTail}
use Rattle.interreduce.proofs.Leading.{Terms}

-- ---- vectors without their lead, and with another tail
module _ (ring : Ring) (compare : (n : ℕ) → Key n → Key n → Ordering) where
  pub tail_vector : (v : Terms) → IsVectorOver ring compare v → IsVectorOver ring compare (drop 1 v)
  tail_vector [] h = h
  tail_vector (t ∷ v) h = record { each = h.each.1; descends = h.descends.1 }

  -- the lead of v and what stands below it
  whole_vector :
      (v rest : Terms) (y : CodeKey × ℕ)
      → 0 < length v → IsVectorOver ring compare v → IsVectorOver ring compare rest
      → Each (λ t. compare (variables ring) (head_key (sum_of (variables ring) v)) t.0 ≡ Greater) (sum_of (variables ring) rest)
      → y ≡ get_or v 0 y
      → IsVectorOver ring compare (y ∷ rest) × (y ∷ rest ≡ take 1 v ++ rest)
  whole_vector [] rest y some h r below e = absurd (omega arith)
  whole_vector (t ∷ v) rest y some h r below e =
      let whole : IsVectorOver ring compare (t ∷ rest) = record { each = (h.each.0, r.each); descends = (below, r.descends) } in
      (subst (λ z. IsVectorOver ring compare (z ∷ rest)) (sym e) whole, ap (λ z. z ∷ rest) e)

  -- the same where the lead's key is a copy
  pub with_lead :
      (v rest terms whole : Terms) (key : CodeKey) (lead : CodeKey × ℕ)
      → 0 < length v → IsVectorOver ring compare v → IsVectorOver ring compare rest
      → Each (λ t. compare (variables ring) (head_key (sum_of (variables ring) v)) t.0 ≡ Greater) (sum_of (variables ring) rest)
      → terms ≡ v → lead ≡ get_or terms 0 lead → key ≡ lead.0 → whole ≡ (key, lead.1) ∷ rest
      → IsVectorOver ring compare whole × (whole ≡ take 1 v ++ rest)
  with_lead v rest terms whole key lead some h r below same first copy e =
      let y : CodeKey × ℕ = (key, lead.1) in
      let again : y ≡ lead = ap (λ k. (k, lead.1)) copy in
      let w = whole_vector v rest y some h r below (again ∙ first ∙ ap₂ (λ l d. get_or l 0 d) same (sym again)) in
      (subst (IsVectorOver ring compare) (sym e) w.0, e ∙ w.1)

-- ---- what division leaves stands below the lead
moved : {n : ℕ} (p : ℕ) (v a r : FormalSum n) → 0 < p → IsSame p v (a ++ r) → IsSame p r (v ++ scale (p - 1) (unit n) a)
moved {n} p v a r pos h = IsSame_sym (record {
  by_key = λ k.
      let x = coefficient v k in
      let y = coefficient a k in
      let z = coefficient r k in
      let d : coefficient (v ++ scale (p - 1) (unit n) a) k ≡ x + (p - 1) * y = weighted_sum-minus p (indicator k) v a in
      IsCongruent_trans (IsCongruent_of p _ _ d)
      (IsCongruent_trans (IsCongruent_add (IsCongruent_trans (h.by_key k) (IsCongruent_of p _ (y + z) (coefficient-append a r k))) (IsCongruent_refl p ((p - 1) * y)))
      (IsCongruent_trans (IsCongruent_of p ((y + z) + (p - 1) * y) (z + (y + (p - 1) * y)) (omega arith))
      (IsCongruent_trans (IsCongruent_add (IsCongruent_refl p z) (IsCongruent_minus p y pos)) (IsCongruent_of p (z + 0) z (omega arith)))));
})

each_scaled :
    {n : ℕ} (P Q : Key n → Type 0) (c : ℕ) (m : Exponents n) (v : FormalSum n)
    → ((k : Key n) → Q k → P (shift m k)) → Each (λ t. Q t.0) v → Each (λ t. P t.0) (scale c m v)
each_scaled P Q c m [] f h = tt
each_scaled P Q c m (t ∷ v) f h = (f t.0 h.0, each_scaled P Q c m v f h.1)

module _ {n r : ℕ} {compare : Key n → Key n → Ordering} (order : IsKeyOrder r compare) where
  -- what is at most what stands below k stands below k
  below_up_to : (k l m : Key n) → compare k m ≡ Greater → (compare l m ≡ Greater → ⊥) → compare k l ≡ Greater
  below_up_to k l m g up = go (compare k l) refl
    where
      go : (o : Ordering) → compare k l ≡ o → compare k l ≡ Greater
      go Greater e = e
      go Equal e = absurd (up (subst (λ z. compare z m ≡ Greater) (order.exact k l e) g))
      go Less e = absurd (up (greater_trans order l k m (greater_of_less order k l e) g))

  -- each key of a product whose lead is at most m stands below k, where m does
  product_below :
      (k m : Key n) (c : ℕ) (e : Exponents n) (g : FormalSum n)
      → Descends compare g → compare k m ≡ Greater → (compare (shift e (head_key g)) m ≡ Greater → ⊥)
      → Each (λ t. compare k t.0 ≡ Greater) (scale c e g)
  product_below k m c e [] d h up = tt
  product_below k m c e (u ∷ g) d h up =
      each_scaled (λ l. compare k l ≡ Greater) (λ l. compare l u.0 ≡ Greater → ⊥) c e (u ∷ g)
      (λ l up_to. below_up_to k (shift e l) m h (up_to_trans order (shift e l) (shift e u.0) m (λ q. up_to (sym (order.kept e l u.0) ∙ q)) up))
      (none_above order u g d.0)

pub each_at_index : {X : Type 0} (P : List X → Type 0) (xs : List (List X)) (i : ℕ) → P [] → Each P xs → P (get_or xs i [])
each_at_index P [] i none h = none
each_at_index P (x ∷ xs) zero none h = h.0
each_at_index P (x ∷ xs) (suc i) none h = each_at_index P xs i none h.1

module _ (ring : Ring) (compare : (n : ℕ) → Key n → Key n → Ordering) (rank : ℕ) (lawful : IsLawful (setting ring (variables ring) (compare (variables ring)) rank)) (list : List Terms) (vectors : AreVectorsOver ring compare list) where
  member_descends : (i : ℕ) → Descends (compare (variables ring)) (get_or (sums_of (variables ring) list) i [])
  member_descends i = subst (Descends (compare (variables ring))) (sym (sums_at (variables ring) list i)) ((each_at_index (IsVectorOver ring compare) list i (record { each = tt; descends = tt }) vectors).descends)

  products_below :
      (k m : Key (variables ring)) (qs : List ScaledProduct)
      → compare (variables ring) k m ≡ Greater → HaveLeadsUpTo (variables ring) (compare (variables ring)) list m qs
      → Each (λ t. compare (variables ring) k t.0 ≡ Greater) (combination (sums_of (variables ring) list) (cofactors_of (variables ring) qs))
  products_below k m [] h up = tt
  products_below k m (q ∷ qs) h up =
      Each_append _ (scale q.residue (exponents_of (variables ring) q.monomial.exponents) (get_or (sums_of (variables ring) list) q.index [])) (combination (sums_of (variables ring) list) (cofactors_of (variables ring) qs))
      (product_below lawful.order k m q.residue (exponents_of (variables ring) q.monomial.exponents) (get_or (sums_of (variables ring) list) q.index []) (member_descends q.index) h
      (subst (λ g. compare (variables ring) (shift (exponents_of (variables ring) q.monomial.exponents) (head_key g)) m ≡ Greater → ⊥) (sym (sums_at (variables ring) list q.index)) up.0))
      (products_below k m qs h up.1)

  -- no product is met by zero
  nothing_below :
      (k : Key (variables ring)) (qs : List ScaledProduct)
      → AreMetFrom (variables ring) [] list [] qs
      → Each (λ t. compare (variables ring) k t.0 ≡ Greater) (combination (sums_of (variables ring) list) (cofactors_of (variables ring) qs))
  nothing_below k [] h = tt
  nothing_below k (q ∷ qs) h = absurd (none h.0)
    where
      none : IsMet (variables ring) [] list [] (kept_product_lead (variables ring) list (unscaled q)) → ⊥
      none (inl (i, lt, e)) = omega arith
      none (inr (s, (i, lt, e), d)) = omega arith

  combination_below :
      (k : Key (variables ring)) (tail : Terms) (qs : List ScaledProduct)
      → Each (λ t. compare (variables ring) k t.0 ≡ Greater) (sum_of (variables ring) tail)
      → AreMetFrom (variables ring) (sum_of (variables ring) tail) list [] qs
      → HaveLeadsUpTo (variables ring) (compare (variables ring)) list (head_key (sum_of (variables ring) tail)) qs
      → Each (λ t. compare (variables ring) k t.0 ≡ Greater) (combination (sums_of (variables ring) list) (cofactors_of (variables ring) qs))
  combination_below k [] qs below met up = nothing_below k qs met
  combination_below k (u ∷ tail) qs below met up = products_below k (key_of (variables ring) u.0) qs below.0 up

  -- each key of what division leaves of a tail stands below the lead
  pub rest_below :
      (v tail rest : Terms) (qs : List ScaledProduct)
      → 0 < length v → IsVectorOver ring compare v → tail ≡ drop 1 v → IsVectorOver ring compare rest
      → AreMetFrom (variables ring) (sum_of (variables ring) tail) list [] qs
      → HaveLeadsUpTo (variables ring) (compare (variables ring)) list (head_key (sum_of (variables ring) tail)) qs
      → StandsFor ring tail (combination (sums_of (variables ring) list) (cofactors_of (variables ring) qs) ++ sum_of (variables ring) rest)
      → Each (λ t. compare (variables ring) (head_key (sum_of (variables ring) v)) t.0 ≡ Greater) (sum_of (variables ring) rest)
  rest_below [] tail rest qs some h e r met up sum = absurd (omega arith)
  rest_below (t ∷ v) tail rest qs some h e r met up sum =
      let S = setting ring (variables ring) (compare (variables ring)) rank in
      let k : Key (variables ring) = key_of (variables ring) t.0 in
      let a = combination (sums_of (variables ring) list) (cofactors_of (variables ring) qs) in
      let x = sum_of (variables ring) tail ++ scale (ring.modulus.value - 1) (unit (variables ring)) a in
      let below : Each (λ u. compare (variables ring) k u.0 ≡ Greater) (sum_of (variables ring) tail) = subst (λ z. Each (λ u. compare (variables ring) k u.0 ≡ Greater) (sum_of (variables ring) z)) (sym e) h.descends.0 in
      let whole : Each (λ u. compare (variables ring) k u.0 ≡ Greater) x = Each_append _ (sum_of (variables ring) tail) (scale (ring.modulus.value - 1) (unit (variables ring)) a) below
      (each_scaled (λ l. compare (variables ring) k l ≡ Greater) (λ l. compare (variables ring) k l ≡ Greater) (ring.modulus.value - 1) (unit (variables ring)) a (λ l g. subst (λ z. compare (variables ring) k z ≡ Greater) (sym (shift-unit l)) g) (combination_below k tail qs below met up)) in
      let same : IsSame ring.modulus.value (sum_of (variables ring) rest) x = moved ring.modulus.value (sum_of (variables ring) tail) a (sum_of (variables ring) rest) (positive S lawful) sum in
      Each_map _ _ (sum_of (variables ring) rest) (λ u q. at_key (λ l. compare (variables ring) k l ≡ Greater) x u.0 whole q)
      (occurring S lawful (sum_of (variables ring) rest) x r.descends (residues_of (variables ring) ring.weights ring.modulus.value rest r.each) same)

  -- ---- a member with what is left of its tail is generated by it and the list
  ranked :
      (qs : List ScaledProduct)
      → Each (IsScaledProduct (variables ring) ring.weights ring.modulus.value list) qs
      → HasRank (length (sums_of (variables ring) list)) (cofactors_of (variables ring) qs)
  ranked [] h = tt
  ranked (q ∷ qs) h = (subst (λ z. q.index < z) (sym (length-map list (λ v. sum_of (variables ring) v))) h.0.index, ranked qs h.1)

  pub whole_generated :
      (t : CodeKey × ℕ) (tail rest : Terms) (qs : List ScaledProduct)
      → Each (IsScaledProduct (variables ring) ring.weights ring.modulus.value list) qs
      → StandsFor ring tail (combination (sums_of (variables ring) list) (cofactors_of (variables ring) qs) ++ sum_of (variables ring) rest)
      → IsMember ring.modulus.value (sums_of (variables ring) ((t ∷ tail) ∷ list)) (sum_of (variables ring) (t ∷ rest))
  whole_generated t tail rest qs known sum =
      let S = setting ring (variables ring) (compare (variables ring)) rank in
      let q = ring.modulus.value in
      let pos : 0 < q = positive S lawful in
      let H = sums_of (variables ring) list in
      let F = sums_of (variables ring) ((t ∷ tail) ∷ list) in
      let a = combination H (cofactors_of (variables ring) qs) in
      let one : FormalSum (variables ring) = (key_of (variables ring) t.0, t.1) ∷ [] in
      let v : IsMember q F (sum_of (variables ring) (t ∷ tail)) = IsMember_each q F 0 in
      let c : IsMember q F (scale (q - 1) (unit (variables ring)) a) = IsMember_scale pos F (q - 1) (unit (variables ring)) a (IsMember_combination pos F H (λ j l. IsMember_each q F (suc j)) (cofactors_of (variables ring) qs) (ranked qs known)) in
      let both = IsMember_append F (sum_of (variables ring) (t ∷ tail)) (scale (q - 1) (unit (variables ring)) a) v c in
      let same : IsSame q (sum_of (variables ring) rest) (sum_of (variables ring) tail ++ scale (q - 1) (unit (variables ring)) a) = moved q (sum_of (variables ring) tail) a (sum_of (variables ring) rest) pos sum in
      IsMember_same F _ _ (IsSame_append (IsSame_refl q one) (IsSame_sym same)) both

  -- ---- and so it is once it is monic
  head_of_keys : (v w : Terms) → map (λ t. t.0) v ≡ map (λ t. t.0) w → head_key (sum_of (variables ring) v) ≡ head_key (sum_of (variables ring) w)
  head_of_keys [] [] e = refl
  head_of_keys [] (u ∷ w) e = absurd (cc)
  head_of_keys (t ∷ v) [] e = absurd (cc)
  head_of_keys (t ∷ v) (u ∷ w) e = let d : t.0 ≡ u.0 = cc in ap (key_of (variables ring)) d

  each_of_keys :
      (P : Key (variables ring) → Type 0) (v w : Terms)
      → map (λ t. t.0) v ≡ map (λ t. t.0) w → Each (λ t. P t.0) (sum_of (variables ring) w) → Each (λ t. P t.0) (sum_of (variables ring) v)
  each_of_keys P [] w e h = tt
  each_of_keys P (t ∷ v) [] e h = absurd (cc)
  each_of_keys P (t ∷ v) (u ∷ w) e h =
      let d : t.0 ≡ u.0 = cc in
      let r : map (λ x. x.0) v ≡ map (λ x. x.0) w = tail_of e in
      (subst (λ k. P (key_of (variables ring) k)) (sym d) h.0, each_of_keys P v w r h.1)
    where
      tail_of : {X : Type 0} {x y : X} {xs ys : List X} → x ∷ xs ≡ y ∷ ys → xs ≡ ys
      tail_of e = cc

  tail_reduced :
      (new : Terms) (t : CodeKey × ℕ) (rest : Terms)
      → map (λ x. x.0) new ≡ map (λ x. x.0) (t ∷ rest) → IsFreeOfLeads (sums_of (variables ring) list) (sum_of (variables ring) rest)
      → IsFreeOfLeads (sums_of (variables ring) list) (drop 1 (sum_of (variables ring) new))
  tail_reduced [] t rest e h = tt
  tail_reduced (u ∷ new) t rest e h = each_of_keys (IsUncovered (sums_of (variables ring) list)) new rest (tail_of e) h
    where
      tail_of : {X : Type 0} {x y : X} {xs ys : List X} → x ∷ xs ≡ y ∷ ys → xs ≡ ys
      tail_of e = cc

  pub reduced :
      (v tail rest old new : Terms) (qs : List ScaledProduct)
      → 0 < length v → tail ≡ drop 1 v
      → Each (IsScaledProduct (variables ring) ring.weights ring.modulus.value list) qs
      → StandsFor ring tail (combination (sums_of (variables ring) list) (cofactors_of (variables ring) qs) ++ sum_of (variables ring) rest)
      → IsFreeOfLeads (sums_of (variables ring) list) (sum_of (variables ring) rest)
      → old ≡ take 1 v ++ rest → IsVectorOver ring compare new → IsMonicOf ring old new
      → HasReducedTail ring compare list v new
  reduced [] tail rest old new qs some et known sum free eo vector monic = absurd (omega arith)
  reduced (t ∷ v) tail rest old new qs some et known sum free eo vector monic =
      let S = setting ring (variables ring) (compare (variables ring)) rank in
      let q = ring.modulus.value in
      let F = sums_of (variables ring) ((t ∷ v) ∷ list) in
      let keys : map (λ x. x.0) new ≡ map (λ x. x.0) (t ∷ rest) = monic.keys ∙ ap (map (λ x. x.0)) eo in
      let whole : IsMember q F (sum_of (variables ring) (t ∷ rest)) = subst (λ z. IsMember q (sums_of (variables ring) ((t ∷ z) ∷ list)) (sum_of (variables ring) (t ∷ rest))) et (whole_generated t tail rest qs known sum) in
      let generated : IsMember q F (sum_of (variables ring) old) = subst (λ z. IsMember q F (sum_of (variables ring) z)) (sym eo) whole in
      record {
        vector = vector;
        lead = head_of_keys new (t ∷ rest) keys;
        monic = monic.one (subst (λ z. 0 < length z) (sym eo) (positive_length t rest));
        generated = IsMember_same F _ _ (IsSame_sym monic.multiple) (IsMember_scale (positive S lawful) F monic.factor (unit (variables ring)) (sum_of (variables ring) old) generated);
        tail = tail_reduced new t rest keys free;
      }
    where
      positive_length : (t : CodeKey × ℕ) (rest : Terms) → 0 < length (t ∷ rest)
      positive_length t rest = omega arith
