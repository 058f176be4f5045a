-- Products that grow by an entry
use Rattle.std.proofs.Common.{Bool, List, [], ap, arith, drop, get_or, get_or-set_other, inl, inr, length, max, set, subst, subst₂, sym, take, true, ℕ, ◌+◌, ◌++◌, ◌<◌, ◌∙◌, ◌∷◌, ◌≡◌, ◌≤◌, ◌⊎◌}
use Rattle.std.proofs.lemmas.Bool.{cases_eq, cases_lt}
use Rattle.std.proofs.lemmas.List.{drop-append-le, get_or-set_same, get_or_past, length-append}
use Rattle.std.proofs.lemmas.Nat.Bits.{bit_at_or}
use Rattle.std.specs.Int.{bit_at}
use Rattle.std.specs.Prelude.{bit_or}
use Rattle.monomials.specs.Exponents.{exponents_of}
use Rattle.formal_sums.specs.FormalSums.{FormalSum, scale, shift}
use Rattle.monomial_orders.specs.Kept.{Monomial}
use Rattle.term_lists.proofs.Scaling.{Each_at}
use Rattle.term_lists.specs.Rings.{variables}
use Rattle.term_lists.specs.Vectors.{IsMonomialOver, key_of, sum_of, sums_of}
use Rattle.term_lists.specs.declared.key.Key.{Key as CodeKey}
use Rattle.term_lists.specs.declared.ring.Ring.{Ring}
use Rattle.vector_division.specs.Divisions.{IsUncovered}
use Rattle.row_matrix.proofs.KeyProducts.{key_product_key, length_sums, sums_at}
use Rattle.row_matrix.proofs.Telling.{told_more}
use Rattle.row_matrix.specs.Hashes.{IsNumbered, key_product, sums}
use Rattle.row_matrix.specs.Told.{IsKeyUpTo}
use Rattle.induced_leads.specs.Reaching.{OccurAmong}
use Rattle.schreyer_resolution.proofs.FreeRows.{more_none, up_to_entry, up_to_free, up_to_more}
use Rattle.schreyer_resolution.proofs.FreeRows as rows
use Rattle.schreyer_resolution.specs.FreeKeys.{HasMore, IsUpToFree}
use Rattle.schreyer_resolution.specs.Marking.{AreColumnMarks, AreTermMarks, IsTermMark}
use Rattle.schreyer_resolution.specs.Sharing.{ArePartProducts, HaveMore, IsEntryPushed, IsLastProduct, IsRowUnderway}
use Rattle.schreyer_resolution.specs.declared.marking.ColumnMarks.{ColumnMarks}
use Rattle.schreyer_resolution.specs.declared.marking.TermMark.{TermMark}
use Rattle.schreyer_resolution.specs.declared.products.Product.{Product}
use Rattle.schreyer_resolution.specs.declared.products.Products.{Products}

abbrev Terms : Type 0
Terms = List (CodeKey × ℕ)

-- ---- variables of products
pub occur_sums :
    (a b : List ℕ) (x y : ℕ) → length a ≡ length b → OccurAmong a x → OccurAmong b y → OccurAmong (sums a b) (bit_or y x)
occur_sums a b x y len ha hb i lt none = at (cases_lt i (length a))
  where
    both : max (bit_at y i) (bit_at x i) ≡ 0
    both = sym (bit_at_or y x i) ∙ none

    first : get_or a i 0 ≡ 0
    first = ha i lt (omega (arith, both))

    second : get_or b i 0 ≡ 0
    second = hb i lt (omega (arith, both))

    at : (i < length a) ⊎ (length a ≤ i) → get_or (sums a b) i 0 ≡ 0
    at (inl l) = sums_at a b i len l ∙ omega (arith, first, second)
    at (inr ge) = get_or_past (sums a b) i 0 (subst (λ z. z ≤ i) (sym (length_sums a b len)) ge)

-- ---- marks
pub mark_there :
    (cols : List Terms) (positions : ℕ) (marks : List ColumnMarks) (at k : ℕ) (m : ColumnMarks) (one : TermMark) (terms : Terms) (x : CodeKey × ℕ)
    → AreColumnMarks cols positions marks → at < length cols → m ≡ get_or marks at m → terms ≡ get_or cols at [] → k < length terms
    → one ≡ get_or m.marks.items k one → x ≡ get_or terms k x → IsTermMark cols positions x.0 one
mark_there cols positions marks at k m one terms x h lt is e l one_is x_is =
    (h.each at m lt is).each k one x (subst (λ v. k < length v) e l) one_is (subst (λ v. x ≡ get_or v k x) e x_is)

-- a marked term's key is within the bounds
pub within_bounds :
    (cols : List Terms) (positions : ℕ) (m : ColumnMarks) (one : TermMark) (terms : Terms) (k : ℕ) (x : CodeKey × ℕ)
    → AreTermMarks cols positions terms m → IsTermMark cols positions x.0 one → one.is_reached ≡ true → k < length terms → x ≡ get_or terms k x
    → ((i : ℕ) → get_or x.0.monomial.exponents i 0 ≤ x.0.monomial.degree) → IsKeyUpTo positions m.degree x.0
within_bounds cols positions m one terms k x h mark reached lt is held = record {
  place = let p = mark.place reached in omega (arith, p);
  few = few;
  exponents = λ i. omega (arith, few, held i);
}
  where
    few : x.0.monomial.degree ≤ m.degree
    few = Each_at (λ u. u.0.monomial.degree ≤ m.degree) terms k x h.above lt is

-- ---- numbers
pub numbered_more : (old new : List CodeKey) (key : CodeKey) (i : ℕ) → IsNumbered old new key i → HasMore old new
numbered_more old new key i g = go g.grown
  where
    go : (new ≡ old) ⊎ ((new ≡ old ++ key ∷ []) × (i ≡ length old)) → HasMore old new
    go (inl e) = subst (HasMore old) (sym e) (more_none old)
    go (inr e) = record { added = key ∷ []; is = e.0 }

-- each number has a flag again
pub flags_whole :
    (old new : List CodeKey) (key : CodeKey) (i before after : ℕ) → IsNumbered old new key i → before ≡ length old
    → (i < before → after ≡ before) → (before ≡ i → after ≡ i + 1) → after ≡ length new
flags_whole old new key i before after g whole known next = go g.grown
  where
    go : (new ≡ old) ⊎ ((new ≡ old ++ key ∷ []) × (i ≡ length old)) → after ≡ length new
    go (inl e) = let same = ap length e in let lt = g.within in let k = known (omega (arith, lt, same, whole)) in omega (arith, k, same, whole)
    go (inr e) =
        let more = ap length e.0 ∙ length-append old (key ∷ []) in
        let n = next (omega (arith, whole, e.1)) in
        omega (arith, n, more, e.1)

-- a number that had no flag is the next one
pub number_next : (old new : List CodeKey) (key : CodeKey) (i before : ℕ) → IsNumbered old new key i → before ≡ length old → i ≤ before
number_next old new key i before g whole = go g.grown
  where
    go : (new ≡ old) ⊎ ((new ≡ old ++ key ∷ []) × (i ≡ length old)) → i ≤ before
    go (inl e) = let same = ap length e in let lt = g.within in omega (arith, lt, same, whole)
    go (inr e) = omega (arith, whole, e.1)

-- ---- an entry more
module _ (ring : Ring) (cols : List Terms) (t : Monomial) (terms : Terms) (k from : ℕ) (x : CodeKey × ℕ) (old new : Products) where
  abbrev product : ℕ → FormalSum (variables ring)
  product i = scale 1 (exponents_of (variables ring) t.exponents) (sum_of (variables ring) (take i terms))

  pub entry_more : IsEntryPushed ring cols t x old new → HaveMore old new
  entry_more h = record { numbers = numbered_more old.numbers new.numbers (key_product t x.0) h.number h.numbered; entries = go h.entries; list = h.list }
    where
      go : (new.entries.items ≡ old.entries.items ++ (h.number, x.1) ∷ [])
          ⊎ ((new.entries.items ≡ old.entries.items) × IsUncovered (sums_of (variables ring) cols) (key_of (variables ring) (key_product t x.0)))
          → HasMore old.entries.items new.entries.items
      go (inl e) = record { added = (h.number, x.1) ∷ []; is = e }
      go (inr e) = subst (HasMore old.entries.items) (sym e.0) (more_none old.entries.items)

  module _ (wt : IsMonomialOver ring t) (wx : IsMonomialOver ring x.0.monomial) (lt : k < length terms) (is : x ≡ get_or terms k x) where
    keyed : key_of (variables ring) (key_product t x.0) ≡ shift (exponents_of (variables ring) t.exponents) (key_of (variables ring) x.0)
    keyed = key_product_key (variables ring) t x.0 wt.variables wx.variables

    -- a term that no lead divides
    pub row_free :
        (keys : List CodeKey) (entries : List (ℕ × ℕ)) → IsUpToFree ring cols keys (product k) entries
        → IsUncovered (sums_of (variables ring) cols) (key_of (variables ring) (key_product t x.0)) → IsUpToFree ring cols keys (product (k + 1)) entries
    row_free keys entries h free =
        subst (λ v. IsUpToFree ring cols keys v entries) (sym (rows.scaled_more (variables ring) t.exponents terms k x lt is))
        (up_to_free ring cols keys (product k) entries (shift (exponents_of (variables ring) t.exponents) (key_of (variables ring) x.0)) x.1 h
        (subst (IsUncovered (sums_of (variables ring) cols)) keyed free))

    -- a term whose product has its entry, or none
    pub row_pushed :
        x.1 < ring.modulus.value → from ≤ length old.entries.items → IsEntryPushed ring cols t x old new
        → IsUpToFree ring cols old.numbers (product k) (drop from old.entries.items)
        → IsUpToFree ring cols new.numbers (product (k + 1)) (drop from new.entries.items)
    row_pushed low le h row = go h.entries
      where
        more : IsUpToFree ring cols new.numbers (product k) (drop from old.entries.items)
        more = up_to_more ring cols old.numbers new.numbers (product k) (drop from old.entries.items)
            (numbered_more old.numbers new.numbers (key_product t x.0) h.number h.numbered) row

        go : (new.entries.items ≡ old.entries.items ++ (h.number, x.1) ∷ [])
            ⊎ ((new.entries.items ≡ old.entries.items) × IsUncovered (sums_of (variables ring) cols) (key_of (variables ring) (key_product t x.0)))
            → IsUpToFree ring cols new.numbers (product (k + 1)) (drop from new.entries.items)
        go (inl e) =
            subst₂ (IsUpToFree ring cols new.numbers) (sym (rows.scaled_more (variables ring) t.exponents terms k x lt is))
            (sym (ap (drop from) e ∙ drop-append-le from old.entries.items ((h.number, x.1) ∷ []) le))
            (up_to_entry ring cols new.numbers (product k) (drop from old.entries.items) h.number x.1
            (shift (exponents_of (variables ring) t.exponents) (key_of (variables ring) x.0)) more h.numbered.within low
            (ap (key_of (variables ring)) h.numbered.there ∙ keyed))
        go (inr e) =
            subst (λ es. IsUpToFree ring cols new.numbers (product (k + 1)) (drop from es)) (sym e.0)
            (row_free new.numbers (drop from old.entries.items) more e.1)

pub have_none : (x : Products) → HaveMore x x
have_none x = record { numbers = more_none x.numbers; entries = more_none x.entries.items; list = more_none x.list.items }

pub have_trans : (x y z : Products) → HaveMore x y → HaveMore y z → HaveMore x z
have_trans x y z g h = record {
  numbers = rows.more_trans x.numbers y.numbers z.numbers g.numbers h.numbers;
  entries = rows.more_trans x.entries.items y.entries.items z.entries.items g.entries h.entries;
  list = rows.more_trans x.list.items y.list.items z.list.items g.list h.list;
}

-- ---- a row underway
module _ (ring : Ring) (cols : List Terms) (t : Monomial) (terms : Terms) (positions degree : ℕ) (told : Bool) (from k : ℕ) (x : CodeKey × ℕ)
    (wt : IsMonomialOver ring t) (wx : IsMonomialOver ring x.0.monomial) (lt : k < length terms) (is : x ≡ get_or terms k x) (start old new : Products) where
  -- by a term whose product was numbered
  pub underway_pushed :
      x.1 < ring.modulus.value → from ≡ length start.entries.items → IsKeyUpTo positions degree x.0 → ArePartProducts ring cols new
      → IsEntryPushed ring cols t x old new → IsRowUnderway ring cols t terms positions degree told from k start old
      → IsRowUnderway ring cols t terms positions degree told from (k + 1) start new
  underway_pushed low e up part h u = record {
    part = part;
    more = have_trans start old new u.more (entry_more ring cols t terms k from x old new h);
    tells = λ z. told_more old.numbers new.numbers t positions degree x.0 h.number (wx.variables ∙ sym wt.variables) (u.tells z) up h.numbered;
    row = row_pushed ring cols t terms k from x old new wt wx lt is low
        (let w = rows.more_length start.entries.items old.entries.items u.more.entries in omega (arith, e, w)) h u.row;
  }

  -- by one that no lead divides
  pub underway_free :
      IsUncovered (sums_of (variables ring) cols) (key_of (variables ring) (key_product t x.0))
      → IsRowUnderway ring cols t terms positions degree told from k start old
      → IsRowUnderway ring cols t terms positions degree told from (k + 1) start old
  underway_free free u = record {
    part = u.part;
    more = u.more;
    tells = u.tells;
    row = row_free ring cols t terms k from x old new wt wx lt is old.numbers (drop from old.entries.items) u.row free;
  }

-- ---- a product whose row is made
pub last_kept :
    (ring : Ring) (cols : List Terms) (old new : Products) (s : Product) → HaveMore old new → IsLastProduct ring cols old.numbers old.entries.items s
    → IsLastProduct ring cols new.numbers new.entries.items s
last_kept ring cols old new s g h = record {
  found = h.found;
  row = rows.row_more ring cols old.numbers new.numbers old.entries.items new.entries.items s.index s.monomial s.stretch g.numbers g.entries h.row;
}

-- it stands in the list, and those before it are as they were
pub lasts_next :
    (ring : Ring) (cols : List Terms) (old new : Products) (at : ℕ) (y : Product) → at < length old.list.items → HaveMore old new
    → IsLastProduct ring cols new.numbers new.entries.items y
    → ((j : ℕ) (s : Product) → j < at → s ≡ get_or old.list.items j s → IsLastProduct ring cols old.numbers old.entries.items s)
    → (j : ℕ) (s : Product) → j < at + 1 → s ≡ get_or (set new.list.items at y) j s → IsLastProduct ring cols new.numbers new.entries.items s
lasts_next ring cols old new at y lt g last done j s l is = go (cases_eq j at)
  where
    go : (j ≡ at) ⊎ (j ≡ at → ⊥) → IsLastProduct ring cols new.numbers new.entries.items s
    go (inl e) =
        let inside : at < length new.list.items = (let w = rows.more_length old.list.items new.list.items g.list in omega (arith, lt, w)) in
        let same : s ≡ y = is ∙ ap (λ i. get_or (set new.list.items at y) i s) e ∙ get_or-set_same new.list.items at y s inside in
        subst (IsLastProduct ring cols new.numbers new.entries.items) (sym same) last
    go (inr ne) =
        let before : j < at = less (cases_lt j at) in
        let there : s ≡ get_or old.list.items j s =
        is ∙ get_or-set_other new.list.items at j y s ne ∙ rows.more_at old.list.items new.list.items s j (omega (arith, before, lt)) g.list in
        last_kept ring cols old new s g (done j s before there)
      where
        less : (j < at) ⊎ (at ≤ j) → j < at
        less (inl k) = k
        less (inr k) = absurd (ne (omega (arith, k, l)))
