-- A reduced set in another order of its members
use Rattle.std.proofs.Common.{Equal, Greater, Less, List, Ordering, [], ap, arith, cond, eq-eqb, eqb, eqb-true, get_or, inl, inr, length, refl, subst, suc, sym, zero, ℕ, ◌+◌, ◌-◌, ◌<◌, ◌∙◌, ◌∷◌, ◌≡◌, ◌⊎◌}
use Rattle.std.proofs.lemmas.Bool.Decides.{eqb_tells}
use Rattle.std.proofs.lemmas.List.Edits.{Swapped, length-swap, swapped_from_swap}
use Rattle.std.specs.List.{swap}
use Rattle.std.specs.List.Sorted.{IsPermutation, SwapsInRange, apply_swaps}
use Rattle.std.specs.Prelude.{Bool, false, true}
use Rattle.residues.proofs.Congruences.{IsCongruent_sym, IsCongruent_trans}
use Rattle.residues.specs.Residues.{IsCongruent}
use Rattle.formal_sums.specs.Combinations.{IsMember}
use Rattle.formal_sums.specs.FormalSums.{FormalSum, Key, coefficient}
use Rattle.orders.proofs.KeyOrdering.{greater_trans}
use Rattle.orders.specs.KeyOrders.{KeyDivides}
use Rattle.bases.proofs.Leading.{one_not_zero}
use Rattle.bases.specs.Bases.{IsCovered, IsReducedBasis, IsReducedSet}
use Rattle.bases.specs.Leads.{IsLead, IsMonicLead, IsNormal, head_key, leads}
use Rattle.bases.specs.Settings.{IsLawful, Setting}
use Rattle.reduced_bases.proofs.Dropping.{KeyDivides_refl}

-- H has the members of G, each at a place of its own
record IsRearranged {n : ℕ} (G H : List (FormalSum n)) : Type 0 where
  place : ℕ → ℕ
  within : (i : ℕ) → i < length H → place i < length G
  is : (i : ℕ) → i < length H → get_or H i [] ≡ get_or G (place i) []
  own : (i j : ℕ) → i < length H → j < length H → place i ≡ place j → i ≡ j
  all : (j : ℕ) → j < length G → (i : ℕ) × (i < length H) × (place i ≡ j)

IsReducedSet_rearranged :
    {n : ℕ} (S : Setting n) (F G H : List (FormalSum n)) → IsReducedSet S F G → IsRearranged G H
    → IsReducedSet S F H
IsReducedSet_rearranged {n} S F G H r a = record {
  basis = record {
    members = λ i h. subst (IsMember S.modulus F) (sym (a.is i h)) (r.basis.members (a.place i) (a.within i h));
    covers = λ v k m lead. covered k (r.basis.covers v k m lead);
  };
  normal = λ i h. subst (IsNormal S) (sym (a.is i h)) (r.normal (a.place i) (a.within i h));
  monic = λ i h. subst (λ v. IsMonicLead S v (head_key v)) (sym (a.is i h)) (r.monic (a.place i) (a.within i h));
  apart = λ i j k hi hj ne d.
      subst (λ v. IsCongruent S.modulus (coefficient v k) 0) (sym (a.is i hi))
      (r.apart (a.place i) (a.place j) k (a.within i hi) (a.within j hj) (λ e. ne (a.own i j hi hj e)) (subst (λ v. KeyDivides (head_key v) k) (a.is j hj) d));
}
  where
    covered : (k : Key n) → IsCovered S G k → IsCovered S H k
    covered k (j, hj, lead, d) = go (a.all j hj)
      where
        go : (i : ℕ) × (i < length H) × (a.place i ≡ j) → IsCovered S H k
        go (i, hi, e) =
            let q = sym (a.is i hi ∙ ap (λ x. get_or G x []) e) in
            (i, hi, subst (λ v. IsLead S v (head_key v)) q lead, subst (λ v. KeyDivides (head_key v) k) q d)

-- i and j change places
exchanged : ℕ → ℕ → ℕ → ℕ
exchanged a b i = cond (eqb i a) b (cond (eqb i b) a i)

exchanged_first : (a b : ℕ) → exchanged a b a ≡ b
unfolding exchanged
exchanged_first a b = let e : eqb a a ≡ true = eq-eqb a a refl in rw e refl

exchanged_second : (a b : ℕ) → exchanged a b b ≡ a
unfolding exchanged
exchanged_second a b = go (eqb b a) refl
  where
    go : (c : Bool) → eqb b a ≡ c → cond c b (cond (eqb b b) a b) ≡ a
    go true e = eqb-true b a e
    go false e = let d : eqb b b ≡ true = eq-eqb b b refl in rw d refl

exchanged_other : (a b i : ℕ) → (i ≡ a → ⊥) → (i ≡ b → ⊥) → exchanged a b i ≡ i
unfolding exchanged
exchanged_other a b i na nb = go (eqb i a) (eqb i b) refl refl
  where
    go : (c d : Bool) → eqb i a ≡ c → eqb i b ≡ d → cond c b (cond d a i) ≡ i
    go true d e f = absurd (na (eqb-true i a e))
    go false true e f = absurd (nb (eqb-true i b f))
    go false false e f = refl

index_cases : (a b i : ℕ) → (i ≡ a) ⊎ ((i ≡ b) ⊎ ((i ≡ a → ⊥) × (i ≡ b → ⊥)))
index_cases a b i = go (eqb_tells i a) (eqb_tells i b)
  where
    go :
        ((eqb i a ≡ true) × (i ≡ a)) ⊎ ((eqb i a ≡ false) × (i ≡ a → ⊥))
        → ((eqb i b ≡ true) × (i ≡ b)) ⊎ ((eqb i b ≡ false) × (i ≡ b → ⊥))
        → (i ≡ a) ⊎ ((i ≡ b) ⊎ ((i ≡ a → ⊥) × (i ≡ b → ⊥)))
    go (inl e) d = inl e.1
    go (inr e) (inl d) = inr (inl d.1)
    go (inr e) (inr d) = inr (inr (e.1, d.1))

exchanged_twice : (a b i : ℕ) → exchanged a b (exchanged a b i) ≡ i
exchanged_twice a b i = go (index_cases a b i)
  where
    go : (i ≡ a) ⊎ ((i ≡ b) ⊎ ((i ≡ a → ⊥) × (i ≡ b → ⊥))) → exchanged a b (exchanged a b i) ≡ i
    go (inl e) = ap (λ x. exchanged a b (exchanged a b x)) e ∙ ap (exchanged a b) (exchanged_first a b) ∙ exchanged_second a b ∙ sym e
    go (inr (inl e)) = ap (λ x. exchanged a b (exchanged a b x)) e ∙ ap (exchanged a b) (exchanged_second a b) ∙ exchanged_first a b ∙ sym e
    go (inr (inr (na, nb))) = ap (exchanged a b) (exchanged_other a b i na nb) ∙ exchanged_other a b i na nb

exchanged_within : (a b i s : ℕ) → a < s → b < s → i < s → exchanged a b i < s
exchanged_within a b i s ha hb hi = go (index_cases a b i)
  where
    go : (i ≡ a) ⊎ ((i ≡ b) ⊎ ((i ≡ a → ⊥) × (i ≡ b → ⊥))) → exchanged a b i < s
    go (inl e) = subst (λ x. x < s) (sym (ap (exchanged a b) e ∙ exchanged_first a b)) hb
    go (inr (inl e)) = subst (λ x. x < s) (sym (ap (exchanged a b) e ∙ exchanged_second a b)) ha
    go (inr (inr (na, nb))) = subst (λ x. x < s) (sym (exchanged_other a b i na nb)) hi

IsRearranged_swap :
    {n : ℕ} (G : List (FormalSum n)) (a b : ℕ) → a < length G → b < length G → IsRearranged G (swap G a b)
IsRearranged_swap G a b ha hb = record {
  place = exchanged a b;
  within = λ i h. exchanged_within a b i (length G) ha hb (back i h);
  is = λ i h. is i (index_cases a b i);
  own = λ i j hi hj e. sym (exchanged_twice a b i) ∙ ap (exchanged a b) e ∙ exchanged_twice a b j;
  all = λ j h. (exchanged a b j, subst (λ x. exchanged a b j < x) (sym (length-swap G a b)) (exchanged_within a b j (length G) ha hb h), exchanged_twice a b j);
}
  where
    back : (i : ℕ) → i < length (swap G a b) → i < length G
    back i h = subst (λ x. i < x) (length-swap G a b) h

    s : Swapped (λ i. get_or G i []) (λ i. get_or (swap G a b) i []) a b
    s = swapped_from_swap G (swap G a b) a b [] ha hb refl

    is : (i : ℕ) → (i ≡ a) ⊎ ((i ≡ b) ⊎ ((i ≡ a → ⊥) × (i ≡ b → ⊥))) → get_or (swap G a b) i [] ≡ get_or G (exchanged a b i) []
    is i (inl e) = ap (λ x. get_or (swap G a b) x []) e ∙ s.0 ∙ sym (ap (λ x. get_or G x []) (ap (exchanged a b) e ∙ exchanged_first a b))
    is i (inr (inl e)) = ap (λ x. get_or (swap G a b) x []) e ∙ s.1 ∙ sym (ap (λ x. get_or G x []) (ap (exchanged a b) e ∙ exchanged_second a b))
    is i (inr (inr (na, nb))) = s.2 i na nb ∙ sym (ap (λ x. get_or G x []) (exchanged_other a b i na nb))

length-apply_swaps : {X : Type 0} (xs : List X) (ms : List (ℕ × ℕ)) → length (apply_swaps xs ms) ≡ length xs
length-apply_swaps xs [] = refl
length-apply_swaps xs (m ∷ ms) = length-swap (apply_swaps xs ms) m.0 m.1 ∙ length-apply_swaps xs ms

IsReducedSet_swaps :
    {n : ℕ} (S : Setting n) (F G : List (FormalSum n)) (ms : List (ℕ × ℕ)) → IsReducedSet S F G
    → SwapsInRange (length G) ms → IsReducedSet S F (apply_swaps G ms)
IsReducedSet_swaps S F G [] r h = r
IsReducedSet_swaps S F G (m ∷ ms) r h =
    let H = apply_swaps G ms in
    let e = sym (length-apply_swaps G ms) in
    IsReducedSet_rearranged S F H (swap H m.0 m.1) (IsReducedSet_swaps S F G ms r h.2)
    (IsRearranged_swap H m.0 m.1 (subst (λ x. m.0 < x) e h.0) (subst (λ x. m.1 < x) e h.1))

-- another order of its members
pub IsReducedSet_permuted :
    {n : ℕ} (S : Setting n) (F G H : List (FormalSum n)) → IsReducedSet S F G → IsPermutation G H
    → IsReducedSet S F H
IsReducedSet_permuted S F G H r p = subst (IsReducedSet S F) (sym p.is) (IsReducedSet_swaps S F G p.moves r p.below)

module _ {n : ℕ} (S : Setting n) (lawful : IsLawful S) (F G : List (FormalSum n)) (r : IsReducedSet S F G)
    (order : (i : ℕ) → suc i < length G → S.compare (leads G i) (leads G (suc i)) ≡ Less → ⊥) where
  -- leads of two members are apart
  leads_apart : (i j : ℕ) → i < length G → j < length G → (i ≡ j → ⊥) → leads G i ≡ leads G j → ⊥
  leads_apart i j hi hj ne e =
      let z = r.apart i j (leads G i) hi hj ne (subst (λ x. KeyDivides x (leads G i)) e (KeyDivides_refl (leads G i))) in
      one_not_zero S lawful (IsCongruent_trans (IsCongruent_sym (r.monic i hi).one) z)

  next_descends : (i : ℕ) → suc i < length G → S.compare (leads G i) (leads G (suc i)) ≡ Greater
  next_descends i h = go (S.compare (leads G i) (leads G (suc i))) refl
    where
      go : (o : Ordering) → S.compare (leads G i) (leads G (suc i)) ≡ o → S.compare (leads G i) (leads G (suc i)) ≡ Greater
      go Less e = absurd (order i h e)
      go Equal e = absurd (leads_apart i (suc i) (omega arith) h (λ d. omega arith) (lawful.order.exact (leads G i) (leads G (suc i)) e))
      go Greater e = e

  descends_by : (i d : ℕ) → suc (d + i) < length G → S.compare (leads G i) (leads G (suc (d + i))) ≡ Greater
  descends_by i zero h = subst (λ x. S.compare (leads G i) (leads G (suc x)) ≡ Greater) (zero_plus i) (next_descends i (omega arith))
    where
      zero_plus : (i : ℕ) → i ≡ zero + i
      zero_plus i = omega arith
  descends_by i (suc d) h =
      greater_trans lawful.order (leads G i) (leads G (suc (d + i))) (leads G (suc (suc d + i))) (descends_by i d (omega arith))
      (subst (λ x. S.compare (leads G (suc (d + i))) (leads G (suc x)) ≡ Greater) (one_more d i) (next_descends (suc (d + i)) (omega arith)))
    where
      one_more : (d i : ℕ) → suc (d + i) ≡ suc d + i
      one_more d i = omega arith

  -- where no lead is below the next, the leads descend
  pub IsReducedBasis_sorted : IsReducedBasis S F G
  IsReducedBasis_sorted = record { reduced = r; descends = descends }
    where
      descends : (i j : ℕ) → i < j → j < length G → S.compare (leads G i) (leads G j) ≡ Greater
      descends i j lt h =
          let e : suc ((j - suc i) + i) ≡ j = omega arith in
          subst (λ x. S.compare (leads G i) (leads G x) ≡ Greater) e (descends_by i (j - suc i) (omega arith))
