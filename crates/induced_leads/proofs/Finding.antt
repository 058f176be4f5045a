-- The search for the last divisor
use Rattle.std.proofs.Common.{List, None, Some, [], ap, arith, get_or, inl, inr, length, max, min, refl, subst, subst₂, sym, ℕ, ◌+◌, ◌++◌, ◌<◌, ◌≤◌, ◌≡◌, ◌∙◌, ◌∷◌, ◌⊎◌}
use Rattle.std.specs.Prelude.{set}
use Rattle.std.proofs.lemmas.Bool.{cases_lt}
use Rattle.std.proofs.lemmas.List.{get_or-set_other, get_or-set_same, get_or_append_left, get_or_default, length-append, length-map, length-set}
use Rattle.std.proofs.Math.Seq.{get_or-append_seam}
use Rattle.monomials.specs.Exponents.{exponents_of}
use Rattle.formal_sums.specs.FormalSums.{Key, shift}
use Rattle.orders.specs.KeyOrders.{KeyDivides}
use Rattle.bases.specs.Leads.{head_key}
use Rattle.term_lists.specs.Vectors.{key_of, sum_of, sums_of}
use Rattle.term_lists.specs.declared.key.Key.{Key as CodeKey}
use Rattle.module_vectors.specs.Trails.{KeptProduct, lead_at}
use Rattle.vector_division.specs.declared.marks.Mark.{Mark}
use Rattle.vector_division.proofs.Members.{sums_at, uncovered}
use Rattle.vector_division.specs.Divisions.{IsUncovered}
use Rattle.induced_leads.specs.Spans.{ArePast, AreTriedFrom, IsFoundLast, IsIndexOf, IsSpannedAt, IsWidened}
use Rattle.induced_leads.specs.declared.divisors.LeadIndex.{LeadIndex}
use Rattle.induced_leads.specs.declared.divisors.Span.{Span}

-- ---- the span of a position has all columns with their leads there
module _ (cols : List (List (CodeKey × ℕ))) (position : ℕ) (index : LeadIndex) (h : IsIndexOf cols index) where
  pub past_none : length index.spans.items ≤ position → ArePast cols position 0
  past_none le n j from lt some at =
      let s = (subst (λ p. IsSpannedAt index.spans.items p j) at (h.spans n j lt some)).known in
      omega (arith, le, s)

  pub past_span : (span : Span) (end : ℕ) → span ≡ get_or index.spans.items position span → end ≡ min span.to (length cols) → ArePast cols position end
  past_span span end is e n j from lt some at =
      let s = subst (λ p. IsSpannedAt index.spans.items p j) at (h.spans n j lt some) in
      let same : s.span ≡ span = s.is ∙ get_or_default index.spans.items position s.span span s.known ∙ sym is in
      let t = subst (λ z. j < z.to) same s.to in
      omega (arith, e, from, lt, t)

-- ---- the span of the key's position has all columns whose leads divide it
module _ (n : ℕ) (cols : List (List (CodeKey × ℕ))) (k : Key n) (index : LeadIndex) (h : IsIndexOf cols index) where
  stands :
      (j : ℕ) → j < length cols → 0 < length (get_or cols j []) → KeyDivides (lead_at n cols j) k
      → IsSpannedAt index.spans.items k.0 j
  stands j lt some d = subst (λ p. IsSpannedAt index.spans.items p j) (ap (λ z. z.0) d.1) (h.spans n j lt some)

  pub no_span : length index.spans.items ≤ k.0 → (j : ℕ) → j < length cols → 0 < length (get_or cols j []) → KeyDivides (lead_at n cols j) k → ⊥
  no_span le j lt some d = let s = (stands j lt some d).known in omega (arith, le, s)

  module _ (span : Span) (is : span ≡ get_or index.spans.items k.0 span) where
    here : (j : ℕ) (s : IsSpannedAt index.spans.items k.0 j) → s.span ≡ span
    here j s = s.is ∙ get_or_default index.spans.items k.0 s.span span s.known ∙ sym is

    pub from_span : (j : ℕ) → j < length cols → 0 < length (get_or cols j []) → KeyDivides (lead_at n cols j) k → span.from ≤ j
    from_span j lt some d = let s = stands j lt some d in subst (λ z. z.from ≤ j) (here j s) s.from

    pub to_span : (j : ℕ) → j < length cols → 0 < length (get_or cols j []) → KeyDivides (lead_at n cols j) k → j < span.to
    to_span j lt some d = let s = stands j lt some d in subst (λ z. j < z.to) (here j s) s.to

    -- none stands behind it
    pub behind_span : (i : ℕ) → (j : ℕ) → i ≡ min span.to (length cols) → i ≤ j → j < length cols → 0 < length (get_or cols j []) → KeyDivides (lead_at n cols j) k → ⊥
    behind_span i j e le lt some d = let t = to_span j lt some d in omega (arith, e, le, lt, t)

    -- nor before it
    pub none_in_span : (ws : List ℕ) (i : ℕ) → i ≤ span.from → AreTriedFrom n cols k i → IsFoundLast n ws cols k None
    none_in_span ws i le rest = uncovered n cols k (length cols) refl (λ j lt some d. go j lt some d (cases_lt j i))
      where
        go : (j : ℕ) → j < length cols → 0 < length (get_or cols j []) → KeyDivides (lead_at n cols j) k → (j < i) ⊎ (i ≤ j) → ⊥
        go j lt some d (inl l) = let f = from_span j lt some d in omega (arith, le, f, l)
        go j lt some d (inr g) = rest j g lt some d

  pub none_spanned : (ws : List ℕ) → length index.spans.items ≤ k.0 → IsFoundLast n ws cols k None
  none_spanned ws le = uncovered n cols k (length cols) refl (no_span le)

-- ---- a span grows
spanned_other :
    (xs : List Span) (at p j : ℕ) (y : Span) → (p ≡ at → ⊥) → IsSpannedAt xs p j → IsSpannedAt (set xs at y) p j
spanned_other xs at p j y ne s = record {
  span = s.span;
  known = subst (λ z. p < z) (sym (length-set xs at y)) s.known;
  is = s.is ∙ sym (get_or-set_other xs at p y s.span ne);
  from = s.from;
  to = s.to;
}

spanned_here :
    (xs : List Span) (at j : ℕ) (y : Span) → at < length xs → y.from ≤ j → j < y.to → IsSpannedAt (set xs at y) at j
spanned_here xs at j y lt f t = record {
  span = y;
  known = subst (λ z. at < z) (sym (length-set xs at y)) lt;
  is = sym (get_or-set_same xs at y y lt);
  from = f;
  to = t;
}

pub spanned_pushed : (xs : List Span) (y : Span) (p j : ℕ) → IsSpannedAt xs p j → IsSpannedAt (xs ++ y ∷ []) p j
spanned_pushed xs y p j s = record {
  span = s.span;
  known = let k = s.known in let e = length-append xs (y ∷ []) in omega (arith, k, e);
  is = s.is ∙ sym (get_or_append_left xs (y ∷ []) s.span p s.known);
  from = s.from;
  to = s.to;
}

pub widened :
    (old xs : List Span) (at : ℕ) (span more y : Span) → ((p j : ℕ) → IsSpannedAt old p j → IsSpannedAt xs p j)
    → at < length xs → span ≡ get_or xs at span → y.from ≡ min span.from more.from → y.to ≡ max span.to more.to
    → IsWidened at more old (set xs at y)
widened old xs at span more y kept lt is from to = record {
  kept = λ p j s. go p j (kept p j s) (decide p at);
  added = λ j f t. spanned_here xs at j y lt (omega (arith, from, f)) (omega (arith, to, t));
}
  where
    decide : (p q : ℕ) → (p ≡ q) ⊎ (p ≡ q → ⊥)
    decide p q = go (cases_lt p q) (cases_lt q p)
      where
        go : (p < q) ⊎ (q ≤ p) → (q < p) ⊎ (p ≤ q) → (p ≡ q) ⊎ (p ≡ q → ⊥)
        go (inl a) b = inr (λ e. omega (arith, a, e))
        go (inr a) (inl b) = inr (λ e. omega (arith, b, e))
        go (inr a) (inr b) = inl (omega (arith, a, b))

    go : (p j : ℕ) → IsSpannedAt xs p j → (p ≡ at) ⊎ (p ≡ at → ⊥) → IsSpannedAt (set xs at y) p j
    go p j s (inr ne) = spanned_other xs at p j y ne s
    go p j s (inl e) =
        let same : s.span ≡ span = s.is ∙ ap (λ z. get_or xs z s.span) e ∙ get_or_default xs at s.span span lt ∙ sym is in
        let f = subst (λ z. z.from ≤ j) same s.from in
        let t = subst (λ z. j < z.to) same s.to in
        subst (λ z. IsSpannedAt (set xs at y) z j) (sym e) (spanned_here xs at j y lt (omega (arith, from, f)) (omega (arith, to, t)))

-- ---- one column more
pub marks_more :
    (P : ℕ → Mark → Type 0) (xs : List Mark) (y : Mark) (i : ℕ) → length xs ≡ i
    → ((j : ℕ) (x : Mark) → j < i → x ≡ get_or xs j x → P j x) → P i y
    → (j : ℕ) (x : Mark) → j < i + 1 → x ≡ get_or (xs ++ y ∷ []) j x → P j x
marks_more P xs y i count h last j x lt is = go (cases_lt j i)
  where
    go : (j < i) ⊎ (i ≤ j) → P j x
    go (inl l) = h j x l (is ∙ get_or_append_left xs (y ∷ []) x j (omega (arith, l, count)))
    go (inr g) =
        let at : j ≡ length xs = omega (arith, lt, g, count) in
        let same : y ≡ x = sym (is ∙ ap (λ z. get_or (xs ++ y ∷ []) z x) at ∙ get_or-append_seam xs y [] x) in
        subst₂ P (sym (at ∙ count)) same last

module _ (cols : List (List (CodeKey × ℕ))) (old new : List Span) (i : ℕ) (v : List (CodeKey × ℕ)) (is : v ≡ get_or cols i v) (inside : i < length cols)
    (before : (n j : ℕ) → j < i → 0 < length (get_or cols j []) → IsSpannedAt old (lead_at n cols j).0 j) where
  column : get_or cols i [] ≡ v
  column = get_or_default cols i [] v inside ∙ sym is

  -- it has a lead
  pub spans_more :
      (k : CodeKey × ℕ) (rest : List (CodeKey × ℕ)) (place : Span) → v ≡ k ∷ rest → place.from ≤ i → i < place.to → IsWidened k.0.position place old new
      → (n j : ℕ) → j < i + 1 → 0 < length (get_or cols j []) → IsSpannedAt new (lead_at n cols j).0 j
  spans_more k rest place e from to w n j lt some = go (cases_lt j i)
    where
      lead : (lead_at n cols i).0 ≡ k.0.position
      lead = ap (λ z. (head_key (sum_of n z)).0) (column ∙ e)

      go : (j < i) ⊎ (i ≤ j) → IsSpannedAt new (lead_at n cols j).0 j
      go (inl l) = w.kept (lead_at n cols j).0 j (before n j l some)
      go (inr g) =
          let at : i ≡ j = omega (arith, lt, g) in
          subst (λ z. IsSpannedAt new (lead_at n cols z).0 z) at (subst (λ z. IsSpannedAt new z i) (sym lead) (w.added i from to))

  -- it is zero
  pub spans_same : v ≡ [] → new ≡ old → (n j : ℕ) → j < i + 1 → 0 < length (get_or cols j []) → IsSpannedAt new (lead_at n cols j).0 j
  spans_same e same n j lt some = go (cases_lt j i)
    where
      go : (j < i) ⊎ (i ≤ j) → IsSpannedAt new (lead_at n cols j).0 j
      go (inl l) = subst (λ z. IsSpannedAt z (lead_at n cols j).0 j) (sym same) (before n j l some)
      go (inr g) =
          let at : j ≡ i = omega (arith, lt, g) in
          let none : length (get_or cols j []) ≡ 0 = ap (λ z. length (get_or cols z [])) at ∙ ap length (column ∙ e) in
          absurd (omega (arith, some, none))

-- a lead that divides the key covers it
pub not_uncovered :
    (n : ℕ) (ws : List ℕ) (cols : List (List (CodeKey × ℕ))) (k : Key n) (s : KeptProduct) → IsFoundLast n ws cols k (Some s) → IsUncovered (sums_of n cols) k → ⊥
not_uncovered n ws cols k s found free =
    let d = found.0 in
    let count = length-map cols (λ v. sum_of n v) in
    let at = sums_at n cols s.0 in
    free s.0 (let i = d.index in omega (arith, i, count)) (λ e. (let none = sym (length-map (get_or cols s.0 []) (λ t. (key_of n t.0, t.1))) ∙ ap length (sym at ∙ e) in let some = d.some in omega (arith, none, some)))
    (exponents_of n s.1.exponents, ap (λ z. shift (exponents_of n s.1.exponents) (head_key z)) at ∙ d.lead)
