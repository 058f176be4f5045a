-- The steps of a row's reduction in a pass
use Rattle.std.proofs.Common.{List, None, Option, Some, [], ap, append-nil, arith, drop, get_or, length, refl, replicate, subst, subst₂, sym, ℕ, ◌*◌, ◌+◌, ◌++◌, ◌-◌, ◌<◌, ◌∙◌, ◌∷◌, ◌≡◌, ◌≤◌}
use Rattle.std.proofs.lemmas.List.{get_or-append-add, get_or-map, get_or_append_left, get_or_default, length-append, length-map}
use Rattle.residues.proofs.Congruences.{IsCongruent_add, IsCongruent_multiply, IsCongruent_of, IsCongruent_refl, IsCongruent_sym, IsCongruent_trans}
use Rattle.residues.specs.Residues.{IsCongruent}
use Rattle.monomials.specs.Exponents.{unit}
use Rattle.formal_sums.proofs.Sameness.{IsSame_append, IsSame_of, IsSame_refl, IsSame_sym, IsSame_trans, coefficient-scale_unit}
use Rattle.formal_sums.proofs.WeightedSums.{Each_append, coefficient-append}
use Rattle.formal_sums.specs.Combinations.{combination}
use Rattle.formal_sums.specs.FormalSums.{Each, FormalSum, IsSame, Key, coefficient, indicator, scale}
use Rattle.term_lists.proofs.Scaling.{Each_at}
use Rattle.pivot_table.specs.Law.{NamesRowOf, entry}
use Rattle.pivot_table.specs.declared.law.Entry.{Entry as Told}
use Rattle.row_laws.specs.Rows.{IsInSpan}
use Rattle.row_matrix.specs.Rows.{Entry, IsRow, RowShown, first_column, no_row, row_sum, shown_row_at, source_key}
use Rattle.dense_reduction.proofs.Clearing.{IsPivot, combined_more, pivot_row, reduced_more, reduced_same}
use Rattle.dense_reduction.proofs.Naming.{follows_same, named_span, span_at, span_left, span_right, told_before, told_last}
use Rattle.dense_reduction.proofs.Reducing.{done_combined, done_inside, done_nothing, done_outside, start_sum}
use Rattle.dense_reduction.specs.Dense.{AddsMultiple, dense_sum}
use Rattle.dense_reduction.specs.Pivots.{ArePivots, lead_column, row_vectors}
use Rattle.dense_reduction.specs.Reductions.{IsPivotFor, IsReducedSoFar, least_left}
use Rattle.dense_reduction.specs.Rests.{IsGone, IsRestFrom}
use Rattle.dense_reduction.specs.Underway.{AreRowsCombined, IsLeftRow, IsReducedTo, IsRowUnderway, sources_sum}
use Rattle.dense_reduction.specs.Words.{AreAsTold, AreRowsReady, IsToldAfter, IsTold, named}

-- ---- the pivot of a column
-- a row that was told
pub pivot_told :
    (p column number : ℕ) (rows own : List RowShown) (told : List Told)
    → IsTold rows told column number → IsPivotFor p rows own told column number
pivot_told p column number rows own told h =
    let at : shown_row_at (rows ++ own) number ≡ shown_row_at rows number = get_or_append_left rows own no_row number h.known in
    record {
      known = omega (arith, length-append rows own, h.known);
      lead = ap (λ (r : RowShown). first_column r.entries) at ∙ h.lead;
      spanned = λ words a n key. span_left key (named rows words) own (row_sum key (shown_row_at (rows ++ own) number).entries)
          (subst (λ (r : RowShown). IsInSpan p (row_vectors key (named rows words)) (row_sum key r.entries)) (sym at) (named_span key rows words column number (h.named words a)));
    }

-- a row that a look found
pub pivot_looked :
    (p columns inputs column number : ℕ) (rows own : List RowShown) (leads : List ℕ) (held : List (Option ℕ)) (old new : List Told)
    → AreRowsReady p columns inputs rows leads held → NamesRowOf leads column (number + 1)
    → new ≡ old ++ entry column (number + 1) (number + 1) ∷ [] → IsPivotFor p rows own new column number
pivot_looked p columns inputs column number rows own leads held old new ready names is =
    let h = names (omega arith) in
    let size : length leads ≡ length rows = ap length ready.known ∙ length-map rows (λ (r : RowShown). first_column r.entries) in
    let lt : number < length rows = omega (arith, h.0, size) in
    let same : number + 1 - 1 ≡ number = omega arith in
    pivot_told p column number rows own new record {
      known = lt;
      lead =
          sym (get_or-map (λ (r : RowShown). first_column r.entries) rows number no_row 0 lt) ∙ ap (λ xs. get_or xs number 0) (sym ready.known)
          ∙ ap (λ i. get_or leads i 0) (sym same) ∙ h.1;
      named = λ words a. told_last words old (entry column (number + 1) (number + 1)) number refl (subst (AreAsTold words) is a);
    }

-- one of the helper's own
pub pivot_own :
    (p columns inputs column at number : ℕ) (rows own : List RowShown) (pivots : List ℕ) (told : List Told)
    → ArePivots p columns inputs own pivots → column < columns → at ≡ get_or pivots column 0 → (at ≡ 0 → ⊥) → number ≡ length rows + at - 1
    → IsPivotFor p rows own told column number
pivot_own p columns inputs column at number rows own pivots told h lt e some is =
    let k = get_or pivots column 0 - 1 in
    let there = h.named column lt (omega (arith, e, some)) in
    let behind : number ≡ length rows + k = omega (arith, is, e, some) in
    let same : shown_row_at (rows ++ own) number ≡ shown_row_at own k = ap (shown_row_at (rows ++ own)) behind ∙ get_or-append-add rows own k no_row in
    record {
      known = omega (arith, length-append rows own, there.0, behind);
      lead = ap (λ (r : RowShown). first_column r.entries) same ∙ there.1;
      spanned = λ words a n key.
          subst (λ (r : RowShown). IsInSpan p (row_vectors key (named rows words ++ own)) (row_sum key r.entries)) (sym same)
          (span_right key (named rows words) own (row_sum key (shown_row_at own k).entries) (span_at key own k there.0));
    }

-- its entries begin at the column
pub pivot_entries :
    (p column columns inputs number : ℕ) (rows own : List RowShown) (told : List Told)
    → Each (IsRow p columns inputs) rows → Each (IsRow p columns inputs) own → IsPivotFor p rows own told column number
    → IsPivot p column columns inputs (rows ++ own) (shown_row_at (rows ++ own) number)
pivot_entries p column columns inputs number rows own told good more h =
    pivot_row p column columns inputs (rows ++ own) number (Each_append (IsRow p columns inputs) rows own good more) h.known h.lead

-- ---- what the steps keep
-- v stands for what is left and the numbers
pub record IsReducedWith (p : ℕ) (rows own : List RowShown) (told : List Told) (row : RowShown) (v : (n : ℕ) → (ℕ → Key n) → FormalSum n) (taken : List Entry) : Type 0 where
  pub inside :
      (words : List (Option ℕ)) → AreAsTold words told → (n : ℕ) (key : ℕ → Key n)
      → IsReducedTo p (row_vectors key (named rows words ++ own)) (row_sum key row.entries) (v n key)
  pub outside : (n : ℕ) (key : ℕ → Key n) → IsReducedTo p (row_vectors key (rows ++ own)) (row_sum key row.entries) (v n key)
  pub combined :
      (n : ℕ) (F : List (FormalSum n)) (key : ℕ → Key n)
      → AreRowsCombined p F key (rows ++ own) → IsSame p (combination F (row_sum (source_key n) row.sources)) (row_sum key row.entries)
      → IsSame p (combination F (sources_sum (source_key n) (rows ++ own) row taken)) (v n key)

-- the row itself
pub reduced_start : (p : ℕ) (rows own : List RowShown) (told : List Told) (row : RowShown) → IsReducedWith p rows own told row (λ n key. row_sum key row.entries) []
reduced_start p rows own told row = record {
  inside = λ words a n key. whole n key (row_vectors key (named rows words ++ own));
  outside = λ n key. whole n key (row_vectors key (rows ++ own));
  combined = λ n F key from one. IsSame_trans (IsSame_of p _ _ (ap (combination F) (append-nil (row_sum (source_key n) row.sources)))) one;
}
  where
    whole : (n : ℕ) (key : ℕ → Key n) (vectors : List (FormalSum n)) → IsReducedTo p vectors (row_sum key row.entries) (row_sum key row.entries)
    whole n key vectors = record {
      taken = [];
      spanned = record { residues = []; sums = IsSame_refl p [] };
      sums = IsSame_of p _ _ (sym (append-nil (row_sum key row.entries)));
    }

-- a pivot's multiple was added
pub reduced_pivot :
    (p column number factor residue : ℕ) (rows own : List RowShown) (old new : List Told) (row : RowShown)
    (v v' : (n : ℕ) → (ℕ → Key n) → FormalSum n) (taken taken' : List Entry)
    → 0 < p → IsToldAfter old new → IsPivotFor p rows own new column number → IsCongruent p (factor + residue) 0 → taken' ≡ taken ++ (number, factor) ∷ []
    → ((n : ℕ) (key : ℕ → Key n) → IsSame p (v' n key) (v n key ++ scale factor (unit n) (row_sum key (shown_row_at (rows ++ own) number).entries)))
    → IsReducedWith p rows own old row v taken → IsReducedWith p rows own new row v' taken'
reduced_pivot p column number factor residue rows own old new row v v' taken taken' pos f pivot cancels more added h = record {
  inside = λ words a n key. reduced_more p (row_vectors key (named rows words ++ own)) (row_sum key row.entries) (v n key) (v' n key) (row_sum key P.entries) factor residue (pivot.spanned words a n key) cancels (added n key) (h.inside words (told_before words old new f a) n key);
  outside = λ n key. reduced_more p (row_vectors key (rows ++ own)) (row_sum key row.entries) (v n key) (v' n key) (row_sum key P.entries) factor residue (span_at key (rows ++ own) number pivot.known) cancels (added n key) (h.outside n key);
  combined = λ n F key from one.
      combined_more p pos F key (rows ++ own) row P taken taken' number factor (v n key) (v' n key) more refl
      (Each_at (λ (r : RowShown). IsSame p (combination F (row_sum (source_key n) r.sources)) (row_sum key r.entries)) (rows ++ own) number P from pivot.known (get_or_default (rows ++ own) number no_row P pivot.known))
      (added n key) (h.combined n F key from one);
}
  where
    P : RowShown
    P = shown_row_at (rows ++ own) number

so_far :
    (p column : ℕ) (rows own : List RowShown) (told : List Told) (row : RowShown) (left : List Entry) (numbers : List ℕ) (taken : List Entry)
    → IsReducedSoFar p column rows own told row left numbers taken
    → IsReducedWith p rows own told row (λ n key. row_sum key left ++ dense_sum key 0 numbers) taken
so_far p column rows own told row left numbers taken h = record { inside = h.inside; outside = h.outside; combined = h.combined }

-- the same is left
pub reduced_kept :
    (p low : ℕ) (rows own : List RowShown) (old new : List Told) (row : RowShown) (left left' : List Entry) (numbers numbers' : List ℕ) (taken : List Entry)
    → IsToldAfter old new → Each (λ e. low ≤ e.0) left'
    → ((n : ℕ) (key : ℕ → Key n) → IsSame p (row_sum key left' ++ dense_sum key 0 numbers') (row_sum key left ++ dense_sum key 0 numbers))
    → IsReducedSoFar p low rows own old row left numbers taken → IsReducedSoFar p low rows own new row left' numbers' taken
reduced_kept p low rows own old new row left left' numbers numbers' taken f above same h = record {
  above = above;
  inside = λ words a n key. reduced_same p (row_vectors key (named rows words ++ own)) (row_sum key row.entries) (row_sum key left ++ dense_sum key 0 numbers) (row_sum key left' ++ dense_sum key 0 numbers') (same n key) (h.inside words (told_before words old new f a) n key);
  outside = λ n key. reduced_same p (row_vectors key (rows ++ own)) (row_sum key row.entries) (row_sum key left ++ dense_sum key 0 numbers) (row_sum key left' ++ dense_sum key 0 numbers') (same n key) (h.outside n key);
  combined = λ n F key from one. IsSame_trans (h.combined n F key from one) (IsSame_sym (same n key));
}

-- a pivot is added
pub reduced_added :
    (p low column number factor residue : ℕ) (rows own : List RowShown) (old new : List Told) (row : RowShown)
    (left left' : List Entry) (numbers numbers' : List ℕ) (taken taken' : List Entry)
    → 0 < p → IsToldAfter old new → IsPivotFor p rows own new column number → IsCongruent p (factor + residue) 0
    → left' ≡ left → taken' ≡ taken ++ (number, factor) ∷ []
    → ((n : ℕ) (key : ℕ → Key n)
    → IsSame p (row_sum key left ++ dense_sum key 0 numbers') ((row_sum key left ++ dense_sum key 0 numbers) ++ scale factor (unit n) (row_sum key (shown_row_at (rows ++ own) number).entries)))
    → IsReducedSoFar p low rows own old row left numbers taken → IsReducedSoFar p low rows own new row left' numbers' taken'
reduced_added p low column number factor residue rows own old new row left left' numbers numbers' taken taken' pos f pivot cancels e more added h =
    let r = reduced_pivot p column number factor residue rows own old new row (λ n key. row_sum key left ++ dense_sum key 0 numbers) (λ n key. row_sum key left ++ dense_sum key 0 numbers') taken taken' pos f pivot cancels more added (so_far p low rows own old row left numbers taken h) in
    subst (λ es. IsReducedSoFar p low rows own new row es numbers' taken') (sym e)
    record { above = h.above; inside = r.inside; outside = r.outside; combined = r.combined }

-- the row's tail and a multiple of its pivot's are the row and that multiple, where the first entries cancel
pub start_vector :
    {n p : ℕ} (key : ℕ → Key n) (c columns factor : ℕ) (es fs tail tail' : List Entry) (zeros numbers numbers' : List ℕ)
    → es ≡ (c, 1) ∷ tail → fs ≡ (c, 1) ∷ tail' → zeros ≡ replicate columns 0
    → AddsMultiple p 1 tail zeros numbers → AddsMultiple p factor tail' numbers numbers' → IsCongruent p (factor + 1) 0
    → IsSame p (dense_sum key 0 numbers') (row_sum key es ++ scale factor (unit n) (row_sum key fs))
start_vector {n} {p} key c columns factor es fs tail tail' zeros numbers numbers' e e' z a a' cancels = record {
  by_key = λ k.
      let w = indicator k (key c) in
      let t = coefficient (row_sum key tail) k in
      let u = coefficient (row_sum key tail') k in
      let d = coefficient (dense_sum key 0 numbers) k in
      let new : IsCongruent p (coefficient (dense_sum key 0 numbers') k) (d + factor * u) =
      IsCongruent_trans ((a'.sum n key).by_key k) (IsCongruent_of p _ _ (coefficient-append (dense_sum key 0 numbers) (scale factor (unit n) (row_sum key tail')) k ∙ ap (λ x. d + x) (coefficient-scale_unit factor (row_sum key tail') k))) in
      let whole : coefficient (row_sum key es ++ scale factor (unit n) (row_sum key fs)) k ≡ (1 * w + t) + factor * (1 * w + u) =
      coefficient-append (row_sum key es) (scale factor (unit n) (row_sum key fs)) k
      ∙ ap (λ x. coefficient (row_sum key es) k + x) (coefficient-scale_unit factor (row_sum key fs) k ∙ ap (λ xs. factor * coefficient (row_sum key xs) k) e')
      ∙ ap (λ xs. coefficient (row_sum key xs) k + factor * (1 * w + u)) e in
      IsCongruent_trans new
      (IsCongruent_trans (IsCongruent_add ((start_sum key columns tail zeros numbers z a).by_key k) (IsCongruent_refl p (factor * u)))
      (IsCongruent_trans (IsCongruent_of p (t + factor * u) (t + factor * u + 0 * w) (omega arith))
      (IsCongruent_trans (IsCongruent_add (IsCongruent_refl p (t + factor * u)) (IsCongruent_sym (IsCongruent_multiply cancels (IsCongruent_refl p w))))
      (IsCongruent_of p (t + factor * u + (factor + 1) * w) _ (omega arith ∙ sym whole)))));
}

-- the row's first column is cleared by its pivot
pub first_cleared :
    (p c columns number factor : ℕ) (rows own : List RowShown) (told : List Told) (row : RowShown) (tail' : List Entry)
    (zeros numbers numbers' : List ℕ) (left taken : List Entry)
    → 0 < p → IsPivotFor p rows own told c number → row.entries ≡ (c, 1) ∷ drop 1 row.entries → (shown_row_at (rows ++ own) number).entries ≡ (c, 1) ∷ tail'
    → zeros ≡ replicate columns 0 → AddsMultiple p 1 (drop 1 row.entries) zeros numbers → AddsMultiple p factor tail' numbers numbers'
    → IsCongruent p (factor + 1) 0 → left ≡ [] → taken ≡ (number, factor) ∷ []
    → IsReducedSoFar p (c + 1) rows own told row left numbers' taken
first_cleared p c columns number factor rows own told row tail' zeros numbers numbers' left taken pos is e e' z a a' cancels none one =
    let tail = drop 1 row.entries in
    let r = reduced_pivot p c number factor 1 rows own told told row (λ n key. row_sum key row.entries) (λ n key. dense_sum key 0 numbers') [] taken
    pos (follows_same told) is cancels one
    (λ n key. start_vector key c columns factor row.entries (shown_row_at (rows ++ own) number).entries tail tail' zeros numbers numbers' e e' z a a' cancels)
    (reduced_start p rows own told row) in
    subst (λ es. IsReducedSoFar p (c + 1) rows own told row es numbers' taken) (sym none)
    record { above = tt; inside = r.inside; outside = r.outside; combined = r.combined }

-- its first entry stays
pub first_stays :
    (p c columns : ℕ) (rows own : List RowShown) (told : List Told) (row : RowShown) (zeros numbers : List ℕ) (left taken : List Entry)
    → row.entries ≡ (c, 1) ∷ drop 1 row.entries → zeros ≡ replicate columns 0 → AddsMultiple p 1 (drop 1 row.entries) zeros numbers
    → left ≡ (c, 1) ∷ [] → taken ≡ []
    → IsReducedSoFar p c rows own told row left numbers taken
first_stays p c columns rows own told row zeros numbers left taken e z a one none =
    let r = reduced_start p rows own told row in
    subst₂ (λ es ts. IsReducedSoFar p c rows own told row es numbers ts) (sym one) (sym none) record {
      above = (let le : c ≤ c = omega arith in le, tt);
      inside = λ words t n key. reduced_same p (row_vectors key (named rows words ++ own)) (row_sum key row.entries) (row_sum key row.entries)
          (row_sum key first ++ dense_sum key 0 numbers) (same n key) (r.inside words t n key);
      outside = λ n key. reduced_same p (row_vectors key (rows ++ own)) (row_sum key row.entries) (row_sum key row.entries)
          (row_sum key first ++ dense_sum key 0 numbers) (same n key) (r.outside n key);
      combined = λ n F key from whole. IsSame_trans (r.combined n F key from whole) (IsSame_sym (same n key));
    }
  where
    first : List Entry
    first = (c, 1) ∷ []

    same : (n : ℕ) (key : ℕ → Key n) → IsSame p (row_sum key ((c, 1) ∷ []) ++ dense_sum key 0 numbers) (row_sum key row.entries)
    same n key =
        IsSame_trans (IsSame_append (IsSame_refl p (row_sum key ((c, 1) ∷ []))) (start_sum key columns (drop 1 row.entries) zeros numbers z a))
        (IsSame_of p _ _ (ap (row_sum key) (sym e)))

-- ---- where something can be left
pub least_above : (es : List Entry) (pivot : Option ℕ) → first_column es ≤ least_left es pivot
least_above es None = omega arith
least_above es (Some pivot) = omega arith

pub least_below : (es : List Entry) (pivot : Option ℕ) → least_left es pivot ≤ first_column es + 1
least_below es None = omega arith
least_below es (Some pivot) = omega arith

-- where no column has an own pivot, the first one has none either
pub first_free : (pivots : List ℕ) (es : List Entry) → 0 < length es → Each (λ e. get_or pivots e.0 0 ≡ 0) es → get_or pivots (first_column es) 0 ≡ 0
first_free pivots [] s h = absurd (omega arith)
first_free pivots (e ∷ es) s h = h.0

-- ---- the end
module _ (p low limit columns inputs count : ℕ) (pos : 0 < p) (rows own : List RowShown) (told : List Told) (pivots : List ℕ) (row : RowShown)
    (left : List Entry) (numbers : List ℕ) (taken : List Entry)
    (underway : IsRowUnderway p limit columns columns count pivots left numbers taken) (reduced : IsReducedSoFar p low rows own told row left numbers taken) where
  cleared : (j : ℕ) → j < length numbers → get_or numbers j 0 ≡ 0
  cleared j lt = underway.cleared j (omega (arith, lt, underway.numbered))

  pub gone_row : left ≡ [] → IsGone p rows own told row
  gone_row e = λ words a. done_nothing p pos (named rows words ++ own) row left numbers cleared (reduced.inside words a) e

  pub rest_row :
      (r : RowShown) → ArePivots p columns inputs own pivots → IsLeftRow p columns inputs (rows ++ own) row left taken r
      → IsRestFrom p columns inputs low rows own told row r
  rest_row r h l = record {
    good = l.good;
    lower = subst (λ c. low ≤ c) (sym l.first) (above left l.some reduced.above);
    apart = λ k lt e.
        let a : get_or pivots (lead_column own k) 0 ≡ k + 1 = h.all k lt in
        let b : get_or pivots (lead_column own k) 0 ≡ 0 = ap (λ c. get_or pivots c 0) (e ∙ l.first) ∙ first_free pivots left l.some underway.free in
        omega (arith, a, b);
    combined = λ n F key from one. (done_combined p pos F key columns inputs (rows ++ own) row left taken numbers r cleared l (reduced.combined n F key from one.0), tt);
    inside = λ words a. done_inside p pos (named rows words ++ own) row left numbers cleared (reduced.inside words a) columns inputs (rows ++ own) taken r l;
    outside = done_outside p pos (rows ++ own) row left numbers cleared reduced.outside columns inputs (rows ++ own) taken r l;
  }
    where
      above : (es : List Entry) → 0 < length es → Each (λ e. low ≤ e.0) es → low ≤ first_column es
      above [] s h = absurd (omega arith)
      above (e ∷ es) s h = h.0
