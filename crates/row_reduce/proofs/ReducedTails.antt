-- Rows with tails reduced by those before them
use Rattle.std.proofs.Common.{List, None, Option, Some, [], ap, append_assoc, arith, get_or, inl, inr, length, refl, subst, suc, sym, ℕ, ◌++◌, ◌-◌, ◌<◌, ◌∙◌, ◌∷◌, ◌≡◌}
use Rattle.std.proofs.lemmas.Bool.{cases_lt}
use Rattle.std.proofs.lemmas.List.{get_or_append_left, length-append, length-map, map-append}
use Rattle.formal_sums.proofs.Combining.{Each_map}
use Rattle.formal_sums.proofs.WeightedSums.{Each_append}
use Rattle.formal_sums.specs.FormalSums.{Each, Key}
use Rattle.pivot_table.specs.Law.{LeadsFit}
use Rattle.pivot_table.specs.declared.law.Entry.{Entry as Told}
use Rattle.row_laws.proofs.RowSpans.{IsInSpan_through}
use Rattle.row_laws.specs.Rows.{IsInSpan}
use Rattle.row_matrix.specs.Rows.{IsRow, RowShown, first_column, no_row, row_sum}
use Rattle.dense_reduction.proofs.Adding.{Each_back, Each_front}
use Rattle.dense_reduction.proofs.Entries.{first_below}
use Rattle.dense_reduction.proofs.Naming.{told_before}
use Rattle.dense_reduction.specs.Pivots.{ArePivots, lead_column, row_vectors}
use Rattle.dense_reduction.specs.Rests.{rows_left}
use Rattle.dense_reduction.specs.Underway.{IsSpanned}
use Rattle.dense_reduction.specs.Words.{AreAsTold, IsToldAfter, WordNames, named, row_leads_of}
use Rattle.dense_reduction.specs.declared.lefts.Left.{Left}
use Rattle.row_reduce.proofs.Echelons.{lead_at, row_of}
use Rattle.row_reduce.proofs.HelpedRows.{spanned_left, spanned_more, spanned_rows, spanned_through}
use Rattle.row_reduce.proofs.Orders.{vector_at}
use Rattle.row_reduce.specs.Echelons.{IsEchelonOf}
use Rattle.row_reduce.specs.Tails.{AreApart, AreTailsReduced, HasTailReduced}

abbrev lead_of : RowShown → ℕ
lead_of r = first_column r.entries

-- lists with the same leads
leads_size : (K E : List RowShown) → row_leads_of K ≡ row_leads_of E → length K ≡ length E
leads_size K E e =
    sym (length-map K (λ (r : RowShown). first_column r.entries)) ∙ ap length e ∙ length-map E (λ (r : RowShown). first_column r.entries)

lead_same : (K E : List RowShown) → row_leads_of K ≡ row_leads_of E → (j : ℕ) → j < length K → lead_column K j ≡ lead_column E j
lead_same K E e j lt =
    sym (lead_at K j lt) ∙ ap (λ ls. get_or ls j 0) e ∙ lead_at E j (omega (arith, lt, leads_size K E e))

-- a matrix with a row has a column
pub some_column : (p columns inputs : ℕ) (rows : List RowShown) → Each (IsRow p columns inputs) rows → 0 < length rows → 0 < columns
some_column p columns inputs [] h lt = absurd (omega arith)
some_column p columns inputs (r ∷ rows) h lt = let b = first_below p columns r.entries h.0.entries h.0.monic in omega arith

module _ (p columns inputs : ℕ) where
  -- no row was kept yet
  pub tails_none : (told : List Told) → AreTailsReduced p columns inputs told [] []
  tails_none told = record {
    rows = tt;
    leads = refl;
    inside = λ words a. tt;
    outside = tt;
    combined = λ n F key h. h;
  }

  -- the next row's first column has no pivot
  pub next_free :
      (told : List Told) (E K rest rows : List RowShown) (e : RowShown) (pivots : List ℕ)
      → AreTailsReduced p columns inputs told E K → ArePivots p columns inputs K pivots → E ++ e ∷ rest ≡ rows
      → IsRow p columns inputs e → AreApart rows → get_or pivots (first_column e.entries) 0 ≡ 0
  next_free told E K rest rows e pivots t h all good apart = elim (cases_lt 0 (get_or pivots (first_column e.entries) 0)) [
    | inl lt ↦
        let c = first_column e.entries in
        let j = get_or pivots c 0 - 1 in
        let own = h.named c (first_below p columns e.entries good.entries good.monic) lt in
        let l : j < length E = omega (arith, own.0, leads_size K E t.leads) in
        let at_j : lead_column (E ++ e ∷ rest) j ≡ c = ap lead_of (get_or_append_left E (e ∷ rest) no_row j l) ∙ sym (lead_same K E t.leads j own.0) ∙ own.1 in
        let at_e : lead_column (E ++ e ∷ rest) (length E) ≡ c = ap lead_of (next_at E) in
        absurd (subst AreApart (sym all) apart j (length E) l (omega (arith, length-append E (e ∷ rest))) (at_j ∙ sym at_e))
    | inr ge ↦ omega arith
  ]
    where
      next_at : (E : List RowShown) → get_or (E ++ e ∷ rest) (length E) no_row ≡ e
      next_at [] = refl
      next_at (x ∷ E) = next_at E

  -- one row more is kept
  pub tails_more :
      (old told : List Told) (E K : List RowShown) (e r : RowShown)
      → IsToldAfter old told → AreTailsReduced p columns inputs old E K → HasTailReduced p columns inputs [] K told e r
      → AreTailsReduced p columns inputs told (E ++ e ∷ []) (K ++ r ∷ [])
  tails_more old told E K e r f t h = record {
    rows = Each_append (IsRow p columns inputs) K (r ∷ []) t.rows (h.1.good, tt);
    leads = map-append (λ (x : RowShown). first_column x.entries) K (r ∷ []) ∙ ap (λ ls. ls ++ first_column r.entries ∷ []) t.leads
        ∙ ap (λ c. row_leads_of E ++ c ∷ []) h.0 ∙ sym (map-append (λ (x : RowShown). first_column x.entries) E (e ∷ []));
    inside = λ words a.
        let N = named [] words in
        Each_append (IsSpanned p (N ++ (K ++ r ∷ []))) E (e ∷ [])
        (Each_map (IsSpanned p (N ++ K)) (IsSpanned p (N ++ (K ++ r ∷ []))) E (λ x s. spanned_more p N K (r ∷ []) x s)
        (t.inside words (told_before words old told f a)))
        (subst (λ X. IsSpanned p X e) (append_assoc N K (r ∷ [])) (h.1.inside words a), tt);
    outside =
        let B = E ++ e ∷ [] in
        let before = Each_map (IsSpanned p E) (IsSpanned p B) K (λ x s. spanned_left p E (e ∷ []) x s) t.outside in
        Each_append (IsSpanned p B) K (r ∷ []) before (
          spanned_through p (K ++ e ∷ []) B r
              (Each_append (IsSpanned p B) K (e ∷ []) before (Each_back (IsSpanned p B) E (e ∷ []) (spanned_rows p B)))
              h.1.outside,
          tt,
        );
    combined = λ n F key all.
        let kept = t.combined n F key (Each_front _ E (e ∷ []) all) in
        Each_append _ K (r ∷ []) kept (h.1.combined n F key kept (Each_back _ E (e ∷ []) all));
  }

  -- words name no row where there is none
  nobody_named : (words : List (Option ℕ)) → ((c k : ℕ) → WordNames words c k → k < 0) → named [] words ≡ []
  nobody_named [] h = refl
  nobody_named (None ∷ words) h = nobody_named words (λ c k e. h (suc c) k e)
  nobody_named (Some k ∷ words) h = absurd (let lt = h 0 k refl in omega arith)

  -- an echelon form stays one
  pub tails_end :
      (told : List Told) (words : List (Option ℕ)) (M E K : List RowShown) → AreAsTold words told → LeadsFit [] words
      → AreTailsReduced p columns inputs told E K → IsEchelonOf p columns inputs M E → IsEchelonOf p columns inputs M K
  tails_end told words M E K a fits t h = record {
    rows = t.rows;
    apart = λ j k lt l e. h.apart j k lt (omega (arith, l, size)) (sym (lead_same K E t.leads j (omega arith)) ∙ e ∙ lead_same K E t.leads k l);
    few = omega (arith, size, h.few);
    leads = λ i lt.
        let k = h.leads i lt in
        let l : k.0 < length K = omega (arith, k.1, size) in
        (k.0, l, lead_same K E t.leads k.0 l ∙ k.2);
    inside = λ n key i lt.
        IsInSpan_through (row_vectors key K) (row_vectors key E) (λ j l. at n key E K inside j l) (get_or (row_vectors key M) i []) (h.inside n key i lt);
    outside = λ n key k lt.
        IsInSpan_through (row_vectors key M) (row_vectors key E)
        (λ j l. h.outside n key j (omega (arith, l, length-map E (λ (x : RowShown). row_sum key x.entries))))
        (get_or (row_vectors key K) k [])
        (at n key K E t.outside k (omega (arith, lt, length-map K (λ (x : RowShown). row_sum key x.entries))));
    combined = λ n F key all. t.combined n F key (h.combined n F key all);
  }
    where
      size : length K ≡ length E
      size = leads_size K E t.leads

      inside : Each (IsSpanned p K) E
      inside = subst (λ N. Each (IsSpanned p (N ++ K)) E) (nobody_named words (λ c k e. (fits c k e).0)) (t.inside words a)

      at :
          (n : ℕ) (key : ℕ → Key n) (A B : List RowShown) → Each (IsSpanned p B) A → (j : ℕ) → j < length (row_vectors key A)
          → IsInSpan p (row_vectors key B) (get_or (row_vectors key A) j [])
      at n key A B all j l =
          let lt : j < length A = omega (arith, l, length-map A (λ (x : RowShown). row_sum key x.entries)) in
          subst (IsInSpan p (row_vectors key B)) (sym (vector_at key A j lt)) (row_of (IsSpanned p B) A j all lt n key)

-- ---- what the code reads and makes
module _ (done rest rest' rows : List RowShown) (row : RowShown) (all : done ++ rest ≡ rows) (is : rest ≡ row ∷ rest') where
  pub next_row : (P : RowShown → Type 0) → Each P rows → P row
  next_row P h = (subst (Each P) is (Each_back P done rest (subst (Each P) (sym all) h))).0

  pub next_listed : done ++ row ∷ rest' ≡ rows
  next_listed = ap (λ xs. done ++ xs) (sym is) ∙ all

  pub one_done : (done ++ row ∷ []) ++ rest' ≡ rows
  one_done = append_assoc done (row ∷ []) rest' ∙ next_listed

-- one more is kept
pub tail_kept :
    (p columns inputs : ℕ) (old told : List Told) (done rows : List RowShown) (row r : RowShown) (left left' : List Left)
    → IsToldAfter old told → AreTailsReduced p columns inputs old done (rows_left left) → rows ≡ []
    → HasTailReduced p columns inputs rows (rows_left left) told row r → left' ≡ left ++ record { number = 0; row = r } ∷ []
    → AreTailsReduced p columns inputs told (done ++ row ∷ []) (rows_left left')
tail_kept p columns inputs old told done rows row r left left' f t none h e =
    subst (AreTailsReduced p columns inputs told (done ++ row ∷ []))
    (sym (map-append (λ (x : Left). x.row) left (record { number = 0; row = r } ∷ [])) ∙ ap rows_left (sym e))
    (tails_more p columns inputs old told done (rows_left left) row r f t (subst (λ rs. HasTailReduced p columns inputs rs (rows_left left) told row r) none h))
