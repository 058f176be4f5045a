-- Keys that leads may divide, by their positions and variables
use Rattle.std.proofs.Common.{List, [], ap, arith, get_or, inl, inr, length, min, refl, subst, suc, sym, zero, ℕ, ◌<◌, ◌∙◌, ◌∷◌, ◌≡◌, ◌≤◌, ◌⊎◌}
use Rattle.std.proofs.lemmas.Bool.{cases_lt}
use Rattle.std.proofs.lemmas.Nat.Bits.{bit_at_and, same_from_bits}
use Rattle.std.specs.Int.{bit_at}
use Rattle.std.specs.Prelude.{bit_and}
use Rattle.monomials.specs.Exponents.{Divides, exponents_of}
use Rattle.formal_sums.proofs.Combining.{Each_map}
use Rattle.formal_sums.specs.FormalSums.{Each}
use Rattle.bases.specs.Leads.{head_key}
use Rattle.monomial_orders.proofs.PlaceByPlace.{of_divides}
use Rattle.monomial_orders.specs.Kept.{IsWeighed}
use Rattle.orders.specs.KeyOrders.{KeyDivides}
use Rattle.term_lists.proofs.Parts.{Each_member}
use Rattle.term_lists.specs.Vectors.{HasVariables, key_of, sum_of, sums_of}
use Rattle.term_lists.specs.declared.key.Key.{Key as CodeKey}
use Rattle.vector_division.proofs.Masking.{beyond}
use Rattle.vector_division.proofs.Members.{uncovered}
use Rattle.vector_division.specs.Divisions.{IsUncovered}
use Rattle.vector_division.specs.Marks.{HasBits, occurs_bit}
use Rattle.vector_division.specs.Progress.{AreWeighed}
use Rattle.induced_leads.proofs.Finding.{from_span, no_span, to_span}
use Rattle.induced_leads.specs.Reaching.{OccurInLead, HasNoLeads, OccurAmong}
use Rattle.induced_leads.specs.Spans.{IsIndexOf}
use Rattle.induced_leads.specs.declared.divisors.LeadIndex.{LeadIndex}
use Rattle.induced_leads.specs.declared.divisors.Span.{Span}

-- ---- bits
pub occur_of_bits : (m : List ℕ) (x : ℕ) → HasBits m x → OccurAmong m x
occur_of_bits m x h i lt none = none_of (get_or m i 0) (sym (h.low i lt) ∙ none)
  where
    none_of : (e : ℕ) → occurs_bit e ≡ 0 → e ≡ 0
    none_of zero z = refl
    none_of (suc e) z = absurd (omega (arith, z))

-- the bits of a monomial are among those of its multiples
among :
    (d k : List ℕ) (x y : ℕ) → HasBits d x → OccurAmong k y → ((i : ℕ) → get_or d i 0 ≤ get_or k i 0) → bit_and x y ≡ x
among d k x y hx ky le = same_from_bits (bit_and x y) x (λ i. bit_at_and x y i ∙ at i (cases_lt i 64))
  where
    low : (i b : ℕ) → i < 64 → bit_at y i ≡ b → min (occurs_bit (get_or d i 0)) b ≡ occurs_bit (get_or d i 0)
    low i zero lt e = let z : get_or k i 0 ≡ 0 = ky i lt e in one (get_or d i 0) (omega (arith, z, le i))
      where
        one : (a : ℕ) → a ≡ 0 → min (occurs_bit a) 0 ≡ occurs_bit a
        one zero z = omega arith
        one (suc a) z = absurd (omega (arith, z))
    low i (suc b) lt e = one (get_or d i 0)
      where
        one : (a : ℕ) → min (occurs_bit a) (suc b) ≡ occurs_bit a
        one zero = omega arith
        one (suc a) = omega arith

    at : (i : ℕ) → (i < 64) ⊎ (64 ≤ i) → min (bit_at x i) (bit_at y i) ≡ bit_at x i
    at i (inl lt) = rw (hx.low i lt) (low i (bit_at y i) lt refl)
    at i (inr ge) = rw (hx.high i ge) (omega arith)

-- a lead that divides the key has its bits among those of the key
lead_among :
    (n : ℕ) (v : List (CodeKey × ℕ)) (k : CodeKey) (x y : ℕ) → Each (HasVariables n) v → OccurInLead v x → length k.monomial.exponents ≡ n
    → OccurAmong k.monomial.exponents y → 0 < length v → KeyDivides (head_key (sum_of n v)) (key_of n k) → bit_and x y ≡ x
lead_among n [] k x y vars bits len occur some d = absurd (omega (arith, some))
lead_among n (t ∷ v) k x y vars bits len occur some d = among t.0.monomial.exponents k.monomial.exponents x y bits occur (λ i. places i (cases_lt i n))
  where
    divides : Divides (exponents_of n t.0.monomial.exponents) (exponents_of n k.monomial.exponents)
    divides = (d.0, ap (λ z. z.1) d.1)

    places : (i : ℕ) → (i < n) ⊎ (n ≤ i) → get_or t.0.monomial.exponents i 0 ≤ get_or k.monomial.exponents i 0
    places i (inl lt) = of_divides n t.0.monomial.exponents k.monomial.exponents vars.0 len divides i lt
    places i (inr ge) =
        let none : get_or t.0.monomial.exponents i 0 ≡ 0 = beyond t.0.monomial.exponents i (subst (λ z. z ≤ i) (sym vars.0) ge) in
        omega (arith, none)

module _ (cols : List (List (CodeKey × ℕ))) (index : LeadIndex) (h : IsIndexOf cols index) where
  -- ---- positions
  pub no_leads_past : (position : ℕ) → length index.spans.items ≤ position → HasNoLeads cols position
  no_leads_past position le n k e = uncovered n cols k (length cols) refl (no_span n cols k index h (omega (arith, le, e)))

  pub no_leads_between :
      (position : ℕ) (span : Span) → span ≡ get_or index.spans.items position span → span.to ≤ span.from → HasNoLeads cols position
  no_leads_between position span is le n k e =
      uncovered n cols k (length cols) refl (λ j lt some d.
      (let here : span ≡ get_or index.spans.items k.0 span = is ∙ ap (λ p. get_or index.spans.items p span) (sym e) in
      let f = from_span n cols k index h span here j lt some d in
      let t = to_span n cols k index h span here j lt some d in
      omega (arith, le, f, t)))

  -- ---- variables
  pub none_reached :
      (n : ℕ) (ws : List ℕ) (k : CodeKey) (position vars end : ℕ) (span : Span) → AreWeighed n ws cols → length k.monomial.exponents ≡ n
      → k.position ≡ position → OccurAmong k.monomial.exponents vars → span ≡ get_or index.spans.items position span
      → min span.to (length index.variables.items) ≤ end
      → ((j : ℕ) → span.from ≤ j → j < end → bit_and (get_or index.variables.items j 0) vars ≡ get_or index.variables.items j 0 → ⊥)
      → IsUncovered (sums_of n cols) (key_of n k)
  none_reached n ws k position vars end span weighed len at occur is past tried =
      uncovered n cols (key_of n k) (length cols) refl (λ j lt some d.
      (let here : span ≡ get_or index.spans.items k.position span = is ∙ ap (λ p. get_or index.spans.items p span) (sym at) in
      let f = from_span n cols (key_of n k) index h span here j lt some d in
      let t = to_span n cols (key_of n k) index h span here j lt some d in
      let c = h.variables.count in
      tried j f (omega (arith, past, t, lt, c))
      (lead_among n (get_or cols j []) k (get_or index.variables.items j 0) vars (over j lt) (h.variables.each j lt) len occur some d)))
    where
      over : (j : ℕ) → j < length cols → Each (HasVariables n) (get_or cols j [])
      over j lt =
          Each_map (λ t. IsWeighed n ws t.0.monomial) (HasVariables n) (get_or cols j []) (λ t w. w.variables)
          (Each_member (λ v. Each (λ t. IsWeighed n ws t.0.monomial) v) cols j [] weighed lt)
