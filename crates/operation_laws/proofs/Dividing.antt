-- Each vector of the rank has a remainder by a list with monic leads
use Rattle.std.proofs.Common.{Equal, Greater, Less, List, Ordering, [], ap, ap₂, arith, get_or, inl, inr, length, refl, subst, suc, sym, zero, ℕ, ◌*◌, ◌++◌, ◌+◌, ◌-◌, ◌<◌, ◌∙◌, ◌∷◌, ◌≡◌, ◌≤◌, ◌⊎◌}
use Rattle.residues.proofs.Congruences.{IsCongruent_add, IsCongruent_minus, IsCongruent_of, IsCongruent_refl, IsCongruent_sym, IsCongruent_trans}
use Rattle.residues.specs.Residues.{IsCongruent}
use Rattle.monomials.specs.Exponents.{Divides, Exponents, cons, head, nil, tail, times, unit}
use Rattle.formal_sums.proofs.Combining.{IsMember_append, IsMember_itself, IsMember_same, IsMember_scale, IsMember_zero}
use Rattle.formal_sums.proofs.OfRank.{IsOfRank_append, IsOfRank_of, IsOfRank_scale}
use Rattle.formal_sums.proofs.Sameness.{weighted_sum-minus}
use Rattle.formal_sums.proofs.WeightedSums.{coefficient-append, indicator_other, indicator_same, key_cases}
use Rattle.formal_sums.specs.FormalSums.{FormalSum, IsOfRank, Key, coefficient, indicator, scale}
use Rattle.orders.proofs.KeyOrdering.{less_of_greater, not_itself}
use Rattle.orders.specs.KeyOrders.{KeyDivides}
use Rattle.orders.specs.MonomialOrders.{IsAccessible, accessible}
use Rattle.bases.proofs.FreeTerms.{IsCovered_monic}
use Rattle.bases.proofs.Leading.{positive}
use Rattle.bases.proofs.Normalizing.{HasLead, has_lead}
use Rattle.bases.proofs.Places.{IsDown}
use Rattle.bases.specs.Bases.{IsCovered}
use Rattle.bases.specs.Leads.{IsLead, IsMonicList, leads}
use Rattle.bases.specs.Settings.{IsLawful, Setting}
use Rattle.division_laws.proofs.Dividing.{remainder_step, remainder_step_above, remainder_step_at, remainder_step_undone}
use Rattle.operation_laws.specs.Lifts.{IsRemainder}

-- ---- divisibility is decided
divides_parts : {n : ℕ} (x y : ℕ) (a b : Exponents n) (m : Exponents (suc n)) → times m (cons x a) ≡ cons y b → (x ≤ y) × Divides a b
divides_parts x y a b (cons z m) e = let q : z + x ≡ y = ap head e in (omega (arith, q), (m, ap tail e))

decided_divides : {n : ℕ} (a b : Exponents n) → Divides a b ⊎ (Divides a b → ⊥)
decided_divides nil nil = inl (nil, refl)
decided_divides (cons x a) (cons y b) = go (cases x y) (decided_divides a b)
  where
    cases : (x y : ℕ) → (x ≤ y) ⊎ (y < x)
    cases x y = grind arith

    go : (x ≤ y) ⊎ (y < x) → Divides a b ⊎ (Divides a b → ⊥) → Divides (cons x a) (cons y b) ⊎ (Divides (cons x a) (cons y b) → ⊥)
    go (inl le) (inl (m, e)) = inl (cons (y - x) m, ap₂ cons (omega (arith, le)) e)
    go (inl le) (inr never) = inr (λ d. never (divides_parts x y a b d.0 d.1).1)
    go (inr lt) r = inr (λ d. let le = (divides_parts x y a b d.0 d.1).0 in omega (arith, le, lt))

decided_key : {n : ℕ} (k l : Key n) → KeyDivides k l ⊎ (KeyDivides k l → ⊥)
decided_key k l = go (cases k.0 l.0) (decided_divides k.1 l.1)
  where
    cases : (x y : ℕ) → (x ≡ y) ⊎ (x ≡ y → ⊥)
    cases x y = grind arith

    go : (k.0 ≡ l.0) ⊎ (k.0 ≡ l.0 → ⊥) → Divides k.1 l.1 ⊎ (Divides k.1 l.1 → ⊥) → KeyDivides k l ⊎ (KeyDivides k l → ⊥)
    go (inl e) (inl d) = inl (d.0, ap₂ (λ i m. (i, m)) e d.1)
    go (inl e) (inr never) = inr (λ d. never (d.0, ap (λ x. x.1) d.1))
    go (inr ne) r = inr (λ d. ne (ap (λ x. x.0) d.1))

-- some lead before place m divides k
abbrev CoveredBefore : {n : ℕ} → List (FormalSum n) → Key n → ℕ → Type 0
CoveredBefore G k m = (i : ℕ) × (i < m) × KeyDivides (leads G i) k

one_more :
    {n : ℕ} (G : List (FormalSum n)) (k : Key n) (m : ℕ) → KeyDivides (leads G m) k ⊎ (KeyDivides (leads G m) k → ⊥) → CoveredBefore G k m ⊎ (CoveredBefore G k m → ⊥)
    → CoveredBefore G k (suc m) ⊎ (CoveredBefore G k (suc m) → ⊥)
one_more G k m d (inl (i, lt, e)) = inl (i, omega (arith, lt), e)
one_more G k m (inl e) (inr never) = inl (m, omega arith, e)
one_more G k m (inr ne) (inr never) = inr (λ b. at b.0 b.1 b.2 (cases b.0 b.1))
  where
    cases : (i : ℕ) → i < suc m → (i < m) ⊎ (i ≡ m)
    cases i h = grind arith

    at : (i : ℕ) → i < suc m → KeyDivides (leads G i) k → (i < m) ⊎ (i ≡ m) → ⊥
    at i h e (inl lt) = never (i, lt, e)
    at i h e (inr q) = ne (subst (λ x. KeyDivides (leads G x) k) q e)

covered_before : {n : ℕ} (G : List (FormalSum n)) (k : Key n) (m : ℕ) → CoveredBefore G k m ⊎ (CoveredBefore G k m → ⊥)
covered_before G k zero = inr (λ b. let lt = b.1 in omega (arith, lt))
covered_before G k (suc m) = one_more G k m (decided_key (leads G m) k) (covered_before G k m)

module _ {n : ℕ} (S : Setting n) (lawful : IsLawful S) (G : List (FormalSum n)) (list : IsMonicList S G) where
  decided_covered : (k : Key n) → IsCovered S G k ⊎ (IsCovered S G k → ⊥)
  decided_covered k = go (covered_before G k (length G))
    where
      go : CoveredBefore G k (length G) ⊎ (CoveredBefore G k (length G) → ⊥) → IsCovered S G k ⊎ (IsCovered S G k → ⊥)
      go (inl b) = inl (IsCovered_monic S lawful G list b.0 k b.1 b.2)
      go (inr never) = inr (λ c. never (c.0, c.1, c.3))

  abbrev HasRemainder : FormalSum n → Type 0
  HasRemainder v = (w : FormalSum n) × IsRemainder S G v w

  -- a vector that is 0
  none : (v : FormalSum n) → HasLead S v → ((k : Key n) → IsLead S v k → HasRemainder v) → HasRemainder v
  none v (inr (k, lead)) f = f k lead
  none v (inl z) f = (
    [],
    record {
      member = IsMember_same G [] (v ++ []) (record { by_key = λ x. IsCongruent_trans (IsCongruent_sym (z.by_key x)) (IsCongruent_of S.modulus _ _ (let e = coefficient-append v [] x in omega (arith, e))) }) (IsMember_zero S.modulus G);
      free = λ k c. IsCongruent_refl S.modulus 0;
    },
  )

  -- the covered lead taken off
  undo : (v : FormalSum n) (k : Key n) (i : ℕ) (m : Exponents n) → i < length G → HasRemainder (remainder_step S lawful G list v k i m) → HasRemainder v
  undo v k i m lt (w, r) = (w, record { member = IsMember_same G (part ++ back) (v ++ scale (S.modulus - 1) (unit n) w) (record { by_key = same }) (IsMember_append G part back r.member (IsMember_scale (positive S lawful) G c m (get_or G i []) (IsMember_itself S.modulus G i lt))); free = r.free })
    where
      c : ℕ
      c = (S.modulus - 1) * ((S.modulus - 1) * coefficient v k)

      part : FormalSum n
      part = remainder_step S lawful G list v k i m ++ scale (S.modulus - 1) (unit n) w

      back : FormalSum n
      back = scale c m (get_or G i [])

      same : (x : Key n) → IsCongruent S.modulus (coefficient (part ++ back) x) (coefficient (v ++ scale (S.modulus - 1) (unit n) w) x)
      same x =
          let u = remainder_step S lawful G list v k i m in
          let minus = scale (S.modulus - 1) (unit n) w in
          let a = coefficient-append part back x in
          let b = coefficient-append u minus x in
          let d = coefficient-append u back x in
          let e = coefficient-append v minus x in
          IsCongruent_trans (IsCongruent_of S.modulus _ (coefficient (u ++ back) x + coefficient minus x) (omega (arith, a, b, d)))
          (IsCongruent_trans (IsCongruent_add ((remainder_step_undone S lawful G list v k i m).by_key x) (IsCongruent_refl S.modulus (coefficient minus x))) (IsCongruent_of S.modulus _ _ (sym e)))

  -- the lead kept
  keep : (v : FormalSum n) (k : Key n) → (IsCovered S G k → ⊥) → HasRemainder (v ++ (k, (S.modulus - 1) * coefficient v k) ∷ []) → HasRemainder v
  keep v k never (w, r) = ((k, coefficient v k) ∷ w, record { member = IsMember_same G _ _ (record { by_key = same }) r.member; free = free })
    where
      same : (x : Key n) → IsCongruent S.modulus (coefficient ((v ++ (k, (S.modulus - 1) * coefficient v k) ∷ []) ++ scale (S.modulus - 1) (unit n) w) x) (coefficient (v ++ scale (S.modulus - 1) (unit n) ((k, coefficient v k) ∷ w)) x)
      same x =
          let a = weighted_sum-minus S.modulus (indicator x) (v ++ (k, (S.modulus - 1) * coefficient v k) ∷ []) w in
          let b = coefficient-append v ((k, (S.modulus - 1) * coefficient v k) ∷ []) x in
          let d = weighted_sum-minus S.modulus (indicator x) v ((k, coefficient v k) ∷ w) in
          IsCongruent_of S.modulus _ _ (omega (arith, a, b, d))

      free : (x : Key n) → IsCovered S G x → IsCongruent S.modulus (coefficient ((k, coefficient v k) ∷ w) x) 0
      free x cov = go (key_cases x k)
        where
          go : (x ≡ k) ⊎ (x ≡ k → ⊥) → IsCongruent S.modulus (coefficient ((k, coefficient v k) ∷ w) x) 0
          go (inl e) = absurd (never (subst (IsCovered S G) e cov))
          go (inr ne) =
              let z : indicator x k ≡ 0 = indicator_other x k ne in
              let y : coefficient v k * indicator x k ≡ 0 = ap (λ i. coefficient v k * i) z ∙ omega arith in
              IsCongruent_trans (IsCongruent_of S.modulus _ (coefficient w x) (omega (arith, y))) (r.free x cov)

  abbrev Claim : Key n → Type 0
  Claim k = (v : FormalSum n) → IsOfRank S.modulus S.rank v → IsLead S v k → HasRemainder v

  -- what has nothing from k on has a remainder
  below : (k : Key n) → ((y : Key n) → IsDown S y k → Claim y) → (u : FormalSum n) → IsOfRank S.modulus S.rank u → IsCongruent S.modulus (coefficient u k) 0
      → ((l : Key n) → S.compare k l ≡ Less → IsCongruent S.modulus (coefficient u l) 0) → HasRemainder u
  below k down u rank at over = none u (has_lead S lawful u) (λ l lead. down l (row l lead, lower l lead (S.compare l k) refl) u rank lead)
    where
      row : (l : Key n) → IsLead S u l → l.0 < S.rank
      row l lead = go (cases l.0 S.rank)
        where
          cases : (x y : ℕ) → (x < y) ⊎ (y ≤ x)
          cases x y = grind arith

          go : (l.0 < S.rank) ⊎ (S.rank ≤ l.0) → l.0 < S.rank
          go (inl lt) = lt
          go (inr ge) = absurd (lead.nonzero (rank.past l ge))

      lower : (l : Key n) → IsLead S u l → (o : Ordering) → S.compare l k ≡ o → S.compare l k ≡ Less
      lower l q Less d = d
      lower l q Equal d = absurd (q.nonzero (subst (λ x. IsCongruent S.modulus (coefficient u x) 0) (sym (lawful.order.exact l k d)) at))
      lower l q Greater d = absurd (q.nonzero (over l (less_of_greater lawful.order l k d)))

  step : (k : Key n) → k.0 < S.rank → ((y : Key n) → IsDown S y k → Claim y) → ((i : ℕ) → i < length G → IsOfRank S.modulus S.rank (get_or G i [])) → Claim k
  step k low down ranks v rank lead = go (decided_covered k)
    where
      cut : FormalSum n
      cut = v ++ (k, (S.modulus - 1) * coefficient v k) ∷ []

      value : (x : Key n) → coefficient cut x ≡ coefficient v x + ((S.modulus - 1) * coefficient v k * indicator x k + 0)
      value x = coefficient-append v ((k, (S.modulus - 1) * coefficient v k) ∷ []) x

      gone : IsCongruent S.modulus (coefficient cut k) 0
      gone =
          let z : indicator k k ≡ 1 = indicator_same k k refl in
          let y : (S.modulus - 1) * coefficient v k * indicator k k ≡ (S.modulus - 1) * coefficient v k = ap (λ i. (S.modulus - 1) * coefficient v k * i) z ∙ omega arith in
          let e = value k in
          IsCongruent_trans (IsCongruent_of S.modulus _ (coefficient v k + (S.modulus - 1) * coefficient v k) (omega (arith, e, y))) (IsCongruent_minus S.modulus (coefficient v k) (positive S lawful))

      over : (l : Key n) → S.compare k l ≡ Less → IsCongruent S.modulus (coefficient cut l) 0
      over l lt =
          let z : indicator l k ≡ 0 = indicator_other l k (λ q. not_itself lawful.order k (subst (λ x. S.compare k x ≡ Less) q lt)) in
          let y : (S.modulus - 1) * coefficient v k * indicator l k ≡ 0 = ap (λ i. (S.modulus - 1) * coefficient v k * i) z ∙ omega arith in
          let e = value l in
          IsCongruent_trans (IsCongruent_of S.modulus _ (coefficient v l) (omega (arith, e, y))) (lead.above l lt)

      go : IsCovered S G k ⊎ (IsCovered S G k → ⊥) → HasRemainder v
      go (inl (i, lt, first, (m, e))) =
          undo v k i m lt
          (below k down (remainder_step S lawful G list v k i m) (IsOfRank_append v (scale ((S.modulus - 1) * coefficient v k) m (get_or G i [])) rank (IsOfRank_scale ((S.modulus - 1) * coefficient v k) m (get_or G i []) (ranks i lt)))
          (remainder_step_at S lawful G list v k i m lt e) (λ l less. remainder_step_above S lawful G list v k i m lt e lead l less))
      go (inr never) =
          keep v k never
          (below k down cut (IsOfRank_append v ((k, (S.modulus - 1) * coefficient v k) ∷ []) rank (IsOfRank_of S.modulus S.rank ((k, (S.modulus - 1) * coefficient v k) ∷ []) (low, tt))) gone over)

  claim : ((i : ℕ) → i < length G → IsOfRank S.modulus S.rank (get_or G i [])) → (k : Key n) → IsAccessible (IsDown S) k → k.0 < S.rank → Claim k
  claim ranks k (accessible k' down) low = step k' low (λ y d. claim ranks y (down y d) d.0) ranks

  pub remainder_exists : ((i : ℕ) → i < length G → IsOfRank S.modulus S.rank (get_or G i [])) → (v : FormalSum n) → IsOfRank S.modulus S.rank v → (w : FormalSum n) × IsRemainder S G v w
  remainder_exists ranks v rank = none v (has_lead S lawful v) (λ k lead. claim ranks k (lawful.order.well_founded k) (row k lead (cases k.0 S.rank)) v rank lead)
    where
      cases : (x y : ℕ) → (x < y) ⊎ (y ≤ x)
      cases x y = grind arith

      row : (k : Key n) → IsLead S v k → (k.0 < S.rank) ⊎ (S.rank ≤ k.0) → k.0 < S.rank
      row k lead (inl lt) = lt
      row k lead (inr ge) = absurd (lead.nonzero (rank.past k ge))
