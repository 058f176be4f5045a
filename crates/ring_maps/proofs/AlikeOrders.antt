-- Orders that compare alike have one reduced basis, and weights that are a multiple of others compare as these do
use Rattle.std.proofs.Common.{Greater, List, Ordering, [], ap, ap₂, arith, get_or, length, max, refl, subst, suc, sym, zero, ℕ, ◌*◌, ◌++◌, ◌+◌, ◌<◌, ◌∙◌, ◌∷◌, ◌≡◌, ◌≤◌}
use Rattle.std.specs.Ordering.{nat_cmp, ordering_then}
use Rattle.std.specs.Prelude.{slice_index}
use Rattle.monomials.proofs.Weighing.{mul_least}
use Rattle.monomials.specs.Exponents.{Exponents, cons, nil}
use Rattle.monomials.specs.Weights.{weighted_degree}
use Rattle.formal_sums.specs.Combinations.{IsMember}
use Rattle.formal_sums.specs.FormalSums.{Each, FormalSum, Key}
use Rattle.orders.proofs.Weighted.{reverse_lex-weigh}
use Rattle.orders.specs.KeyOrders.{Descends, top}
use Rattle.orders.specs.MonomialOrders.{first_variables, other_variables, reverse_lex}
use Rattle.orders.specs.WeightedOrders.{weighted_elimination}
use Rattle.bases.specs.Bases.{IsCovered, IsReducedBasis}
use Rattle.bases.specs.Leads.{IsLead}
use Rattle.bases.specs.Settings.{Setting}
use Rattle.ring_maps.specs.Multiples.{AreWeightMultiples}

-- ---- orders
module _ {n : ℕ} (p r : ℕ) (ws us : List ℕ) (C D : Key n → Key n → Ordering) (same : (k l : Key n) → C k l ≡ D k l) where
  abbrev P : Setting n
  P = record { modulus = p; weights = ws; rank = r; compare = C }

  abbrev Q : Setting n
  Q = record { modulus = p; weights = us; rank = r; compare = D }

  each_alike : (k : Key n) (v : FormalSum n) → Each (λ u. C k u.0 ≡ Greater) v → Each (λ u. D k u.0 ≡ Greater) v
  each_alike k [] d = tt
  each_alike k (t ∷ v) d = (sym (same k t.0) ∙ d.0, each_alike k v d.1)

  descends_alike : (v : FormalSum n) → Descends C v → Descends D v
  descends_alike [] d = tt
  descends_alike (t ∷ v) d = (each_alike t.0 v d.0, descends_alike v d.1)

  lead_alike : (v : FormalSum n) (k : Key n) → IsLead P v k → IsLead Q v k
  lead_alike v k h = record { nonzero = h.nonzero; above = λ l lt. h.above l (same k l ∙ lt) }

  lead_back : (v : FormalSum n) (k : Key n) → IsLead Q v k → IsLead P v k
  lead_back v k h = record { nonzero = h.nonzero; above = λ l lt. h.above l (sym (same k l) ∙ lt) }

  covers_alike : (F G : List (FormalSum n)) → IsReducedBasis P F G → (v : FormalSum n) (k : Key n) → IsMember p F v → IsLead Q v k → IsCovered Q G k
  covers_alike F G h v k member lead =
      let c = h.reduced.basis.covers v k member (lead_back v k lead) in
      (c.0, c.1, lead_alike (get_or G c.0 []) _ c.2, c.3)

  pub basis_alike :
      (F G : List (FormalSum n)) → IsReducedBasis (record { modulus = p; weights = ws; rank = r; compare = C }) F G
      → IsReducedBasis (record { modulus = p; weights = us; rank = r; compare = D }) F G
  basis_alike F G h = record {
    reduced = record {
      basis = record { members = h.reduced.basis.members; covers = covers_alike F G h };
      normal = λ i lt. let g = h.reduced.normal i lt in record { descends = descends_alike (get_or G i []) g.descends; residues = g.residues };
      monic = λ i lt. let g = h.reduced.monic i lt in record { one = g.one; above = λ l less. g.above l (same _ l ∙ less) };
      apart = h.reduced.apart;
    };
    descends = λ i j lt l. sym (same _ _) ∙ h.descends i j lt l;
  }

-- ---- weights
-- multiples by a number above 0 compare as the numbers do
multiples_compare : (c a b : ℕ) → 0 < c → nat_cmp (c * a) (c * b) ≡ nat_cmp a b
multiples_compare c a b pos =
    let own : max 1 c ≡ c = omega arith in
    subst (λ z. nat_cmp (z * a) (z * b) ≡ nat_cmp a b) own (reverse_lex-weigh (c ∷ []) (cons b nil) (cons a nil))

multiple_term : (c u v a d e : ℕ) → 0 < c → 0 < u → v ≡ c * u → d ≡ c * e → max 1 v * a + d ≡ c * (max 1 u * a + e)
multiple_term c u v a d e pos some is h =
    let least : u ≤ c * u = mul_least c u pos in
    let own : max 1 u ≡ u = omega arith in
    let other : max 1 v ≡ c * u = omega (arith, least, is) in
    ap₂ (λ x y. x * a + y) other h ∙ (let ring : c * u * a + c * e ≡ c * (u * a + e) = omega arith in ring) ∙ ap (λ x. c * (x * a + e)) (sym own)

-- the degree by a multiple of the weights
multiple_degree :
    {n : ℕ} (c : ℕ) (us vs : List ℕ) (e : Exponents n) → 0 < c → length us ≡ n → length vs ≡ n
    → ((k : ℕ) → k < length us → (0 < slice_index us k) × (slice_index vs k ≡ c * slice_index us k)) → weighted_degree vs e ≡ c * weighted_degree us e
multiple_degree c [] [] nil pos hu hv h = omega arith
multiple_degree c [] (v ∷ vs) nil pos hu hv h = absurd (omega (arith, hv))
multiple_degree c (u ∷ us) vs nil pos hu hv h = absurd (omega (arith, hu))
multiple_degree c [] vs (cons a e) pos hu hv h = absurd (omega (arith, hu))
multiple_degree c (u ∷ us) [] (cons a e) pos hu hv h = absurd (omega (arith, hv))
multiple_degree c (u ∷ us) (v ∷ vs) (cons a e) pos hu hv h =
    multiple_term c u v a (weighted_degree vs e) (weighted_degree us e) pos (h 0 (omega arith)).0 (h 0 (omega arith)).1
    (multiple_degree c us vs e pos (omega (arith, hu)) (omega (arith, hv)) (λ k lt. h (suc k) (omega (arith, lt))))

none_first : {m : ℕ} (ws : List ℕ) (e : Exponents m) → weighted_degree ws (first_variables zero e) ≡ 0
none_first ws nil = refl
none_first [] (cons a e) =
    let rest : weighted_degree [] (first_variables zero e) ≡ 0 = none_first [] e in
    omega (arith, rest)
none_first (w ∷ ws) (cons a e) =
    let rest : weighted_degree ws (first_variables zero e) ≡ 0 = none_first ws e in
    omega (arith, rest)

-- the weights behind do not count for the first variables
first_degree :
    {m : ℕ} (k : ℕ) (us vs ws : List ℕ) (e : Exponents m) → length us ≡ k
    → weighted_degree (us ++ vs) (first_variables k e) ≡ weighted_degree (us ++ ws) (first_variables k e)
first_degree k us vs ws nil h = refl
first_degree zero [] vs ws (cons a e) h = none_first vs (cons a e) ∙ sym (none_first ws (cons a e))
first_degree zero (u ∷ us) vs ws (cons a e) h = absurd (omega (arith, h))
first_degree (suc k) [] vs ws (cons a e) h = absurd (omega (arith, h))
first_degree (suc k) (u ∷ us) vs ws (cons a e) h = ap (λ d. max 1 u * a + d) (first_degree k us vs ws e (omega (arith, h)))

-- nor do those in front for the others
other_degree :
    {m : ℕ} (c k : ℕ) (us vs ws : List ℕ) (e : Exponents m) → 0 < c → length us ≡ k → m ≡ k + length ws → length vs ≡ length ws
    → ((j : ℕ) → j < length ws → (0 < slice_index ws j) × (slice_index vs j ≡ c * slice_index ws j))
    → weighted_degree (us ++ vs) (other_variables k e) ≡ c * weighted_degree (us ++ ws) (other_variables k e)
other_degree c zero [] vs ws e pos hu hm hv h = multiple_degree c ws vs (other_variables zero e) pos (omega (arith, hm)) (omega (arith, hm, hv)) h
other_degree c zero (u ∷ us) vs ws e pos hu hm hv h = absurd (omega (arith, hu))
other_degree c (suc k) [] vs ws e pos hu hm hv h = absurd (omega (arith, hu))
other_degree c (suc k) (u ∷ us) vs ws nil pos hu hm hv h = absurd (omega (arith, hm))
other_degree c (suc k) (u ∷ us) vs ws (cons a e) pos hu hm hv h =
    let rest : weighted_degree (us ++ vs) (other_variables k e) ≡ c * weighted_degree (us ++ ws) (other_variables k e) =
    other_degree c k us vs ws e pos (omega (arith, hu)) (omega (arith, hm)) hv h in
    omega (arith, rest)

-- weights whose second half is a multiple of the first compare as the first half does, twice
pub multiple_alike :
    {m : ℕ} (n : ℕ) (us vs : List ℕ) (k l : Key m) → length us ≡ n → length vs ≡ n → m ≡ n + n → AreWeightMultiples us vs
    → top (weighted_elimination (us ++ vs) n) k l ≡ top (weighted_elimination (us ++ us) n) k l
multiple_alike {m} n us vs k l hu hv two h =
    let ws = us ++ us in
    ap (λ o. ordering_then o (nat_cmp l.0 k.0))
    (ap₂ ordering_then
    (ap (λ o. ordering_then o (reverse_lex (first_variables n k.1) (first_variables n l.1))) (ap₂ nat_cmp (first_degree n us vs us k.1 hu) (first_degree n us vs us l.1 hu)))
    (ap (λ o. ordering_then o (reverse_lex (other_variables n k.1) (other_variables n l.1)))
    (ap₂ nat_cmp (other k.1) (other l.1) ∙ multiples_compare h.factor (weighted_degree ws (other_variables n k.1)) (weighted_degree ws (other_variables n l.1)) h.positive)))
  where
    other : (e : Exponents m) → weighted_degree (us ++ vs) (other_variables n e) ≡ h.factor * weighted_degree (us ++ us) (other_variables n e)
    other e = other_degree h.factor n us vs us e h.positive hu (omega (arith, two, hu)) (omega (arith, hu, hv)) h.each
