-- A column is cleared
use Rattle.std.proofs.Common.{List, [], ap, ap₂, append-nil, append_assoc, arith, drop, get_or, get_or-set_other, get_or-set_same, inl, inr, length, refl, set, subst, sym, ℕ, ◌%◌, ◌*◌, ◌+◌, ◌++◌, ◌-◌, ◌<◌, ◌∙◌, ◌∷◌, ◌≡◌, ◌≤◌}
use Rattle.std.proofs.lemmas.Bool.{cases_eq, cases_lt}
use Rattle.std.proofs.lemmas.List.{get_or-map, get_or_default, length-set, map-append, set-get_or, set-set}
use Rattle.residues.proofs.Congruences.{IsCongruent_add, IsCongruent_mod, IsCongruent_multiply, IsCongruent_of, IsCongruent_refl, IsCongruent_sym, IsCongruent_trans}
use native.Mathlib.Nat.{mod_self, zero-mod}
use Rattle.residues.specs.Residues.{IsCongruent}
use Rattle.monomials.specs.Exponents.{unit}
use Rattle.formal_sums.proofs.Combining.{combination-append, combination-scale}
use Rattle.formal_sums.proofs.Sameness.{IsSame_append, IsSame_of, IsSame_refl, IsSame_scale, IsSame_sym, IsSame_trans, coefficient-scale_unit}
use Rattle.formal_sums.proofs.WeightedSums.{Each_append, coefficient-append}
use Rattle.formal_sums.specs.Combinations.{combination}
use Rattle.formal_sums.specs.FormalSums.{Each, FormalSum, IsSame, Key, coefficient, indicator, scale}
use Rattle.row_laws.proofs.RowSpans.{IsInSpan_append, IsInSpan_itself, IsInSpan_scale}
use Rattle.row_laws.specs.Rows.{IsInSpan}
use Rattle.row_matrix.specs.Rows.{AreEntries, Entry, IsRow, RowShown, no_row, row_sum, shown_row_at, source_key}
use Rattle.term_lists.proofs.Scaling.{Each_at}
use Rattle.dense_reduction.proofs.Adding.{Each_set, dense_add}
use Rattle.dense_reduction.proofs.Entries.{entries_from, entries_push, entries_widen, monic_entries}
use Rattle.dense_reduction.specs.Dense.{AddsMultiple, AreWithin, HasRoom, IsDense, dense_sum}
use Rattle.dense_reduction.specs.Pivots.{lead_column, row_vectors}
use Rattle.dense_reduction.specs.Underway.{AreRowsCombined, IsReducedTo, IsRowUnderway, sources_sum, taken_sum}

-- the number at a column is its residue, which is taken out
pub dense_clear :
    {n p : ℕ} → 0 < p → (key : ℕ → Key n) (c residue : ℕ) (numbers : List ℕ)
    → c < length numbers → residue ≡ get_or numbers c 0 % p
    → IsSame p (dense_sum key 0 numbers) (dense_sum key 0 (set numbers c 0) ++ (key c, residue) ∷ [])
dense_clear {n} {p} pos key c residue numbers lt e =
    let a = get_or numbers c 0 in
    let back : set (set numbers c 0) c a ≡ numbers = set-set numbers c 0 a ∙ set-get_or numbers c 0 in
    let zero : get_or (set numbers c 0) c 0 ≡ 0 = get_or-set_same numbers c 0 0 lt in
    let one : IsCongruent p a (get_or (set numbers c 0) c 0 + residue) =
    IsCongruent_trans (IsCongruent_sym (IsCongruent_mod p a)) (IsCongruent_of p (a % p) (get_or (set numbers c 0) c 0 + residue) (omega arith)) in
    subst (λ xs. IsSame p (dense_sum key 0 xs) (dense_sum key 0 (set numbers c 0) ++ (key c, residue) ∷ [])) back
    (dense_add pos key c a residue (set numbers c 0) (omega (arith, length-set numbers c 0)) one)

module _ {n : ℕ} (p : ℕ) (pos : 0 < p) (key : ℕ → Key n) (c residue : ℕ) (numbers : List ℕ) (lt : c < length numbers) (is : residue ≡ get_or numbers c 0 % p) where
  cleared : List ℕ
  cleared = set numbers c 0

  -- nothing stood there
  pub none_left :
      (left : List Entry)
      → residue ≡ 0
      → IsSame p (row_sum key left ++ dense_sum key 0 (set numbers c 0)) (row_sum key left ++ dense_sum key 0 numbers)
  none_left left z = IsSame_append (IsSame_refl p (row_sum key left)) (record {
    by_key = λ k.
        IsCongruent_trans
        (IsCongruent_of p (coefficient (dense_sum key 0 (set numbers c 0)) k) (coefficient (dense_sum key 0 (set numbers c 0) ++ (key c, residue) ∷ []) k)
        (sym (coefficient-append (dense_sum key 0 (set numbers c 0)) ((key c, residue) ∷ []) k ∙ ap (λ r. coefficient (dense_sum key 0 (set numbers c 0)) k + (r * indicator k (key c) + 0)) z ∙ omega arith)))
        (IsCongruent_sym ((dense_clear pos key c residue numbers lt is).by_key k));
  })

  -- what stood there is left
  pub one_left :
      (left : List Entry)
      → IsSame p (row_sum key (left ++ (c, residue) ∷ []) ++ dense_sum key 0 (set numbers c 0)) (row_sum key left ++ dense_sum key 0 numbers)
  one_left left = record {
    by_key = λ k.
        let l = coefficient (row_sum key left) k in
        let d = coefficient (dense_sum key 0 (set numbers c 0)) k in
        let w = indicator k (key c) in
        IsCongruent_trans
        (IsCongruent_of p _ (l + (d + (residue * w + 0)))
        (coefficient-append (row_sum key (left ++ (c, residue) ∷ [])) (dense_sum key 0 (set numbers c 0)) k
        ∙ ap (λ x. coefficient x k + d) (map-append (λ (e : Entry). (key e.0, e.1)) left ((c, residue) ∷ []))
        ∙ ap (λ x. x + d) (coefficient-append (row_sum key left) ((key c, residue) ∷ []) k) ∙ omega arith))
        (IsCongruent_trans
        (IsCongruent_add (IsCongruent_refl p l) (IsCongruent_trans (IsCongruent_of p _ _ (sym (coefficient-append (dense_sum key 0 (set numbers c 0)) ((key c, residue) ∷ []) k))) (IsCongruent_sym ((dense_clear pos key c residue numbers lt is).by_key k))))
        (IsCongruent_of p _ _ (sym (coefficient-append (row_sum key left) (dense_sum key 0 numbers) k))));
  }

  -- a multiple of the pivot was added, whose first entry cleared the column
  pub pivot_added :
      (left pivot tail : List Entry) (factor : ℕ) (numbers' : List ℕ)
      → pivot ≡ (c, 1) ∷ tail → IsCongruent p (factor + residue) 0
      → IsSame p (dense_sum key 0 numbers') (dense_sum key 0 (set numbers c 0) ++ scale factor (unit n) (row_sum key tail))
      → IsSame p (row_sum key left ++ dense_sum key 0 numbers') ((row_sum key left ++ dense_sum key 0 numbers) ++ scale factor (unit n) (row_sum key pivot))
  pivot_added left pivot tail factor numbers' e zero h = record {
    by_key = λ k.
        let l = coefficient (row_sum key left) k in
        let d = coefficient (dense_sum key 0 (set numbers c 0)) k in
        let w = indicator k (key c) in
        let t = coefficient (row_sum key tail) k in
        let m = coefficient (dense_sum key 0 numbers) k in
        let new : IsCongruent p (coefficient (dense_sum key 0 numbers') k) (d + factor * t) =
        IsCongruent_trans (h.by_key k) (IsCongruent_of p _ _ (coefficient-append (dense_sum key 0 (set numbers c 0)) (scale factor (unit n) (row_sum key tail)) k ∙ ap (λ x. d + x) (coefficient-scale_unit factor (row_sum key tail) k))) in
        let old : IsCongruent p m (d + residue * w) =
        IsCongruent_trans ((dense_clear pos key c residue numbers lt is).by_key k) (IsCongruent_of p _ _ (coefficient-append (dense_sum key 0 (set numbers c 0)) ((key c, residue) ∷ []) k ∙ omega arith)) in
        let piv : coefficient (scale factor (unit n) (row_sum key pivot)) k ≡ factor * (1 * w + t) =
        coefficient-scale_unit factor (row_sum key pivot) k ∙ ap (λ es. factor * coefficient (row_sum key es) k) e in
        IsCongruent_trans (IsCongruent_of p _ _ (coefficient-append (row_sum key left) (dense_sum key 0 numbers') k))
        (IsCongruent_trans (IsCongruent_add (IsCongruent_refl p l) new)
        (IsCongruent_trans (IsCongruent_of p (l + (d + factor * t)) (l + (d + factor * t) + 0 * w) (omega arith))
        (IsCongruent_trans (IsCongruent_add (IsCongruent_refl p (l + (d + factor * t))) (IsCongruent_sym (IsCongruent_multiply zero (IsCongruent_refl p w))))
        (IsCongruent_trans (IsCongruent_of p (l + (d + factor * t) + (factor + residue) * w) ((l + (d + residue * w)) + factor * (1 * w + t)) (omega arith))
        (IsCongruent_trans (IsCongruent_add (IsCongruent_add (IsCongruent_refl p l) (IsCongruent_sym old)) (IsCongruent_refl p (factor * (1 * w + t))))
        (IsCongruent_of p _ _ (sym (coefficient-append (row_sum key left ++ dense_sum key 0 numbers) (scale factor (unit n) (row_sum key pivot)) k ∙ ap₂ ◌+◌ (coefficient-append (row_sum key left) (dense_sum key 0 numbers) k) piv))))))));
  }

-- ---- what the steps keep
-- the same vector
pub reduced_same :
    {n : ℕ} (p : ℕ) (rows : List (FormalSum n)) (v t t' : FormalSum n)
    → IsSame p t' t → IsReducedTo p rows v t → IsReducedTo p rows v t'
reduced_same p rows v t t' e h = record {
  taken = h.taken;
  spanned = h.spanned;
  sums = IsSame_trans h.sums (IsSame_append (IsSame_sym e) (IsSame_refl p h.taken));
}

-- a row's multiple was added
pub reduced_more :
    {n : ℕ} (p : ℕ) (rows : List (FormalSum n)) (v t t' row : FormalSum n) (factor residue : ℕ)
    → IsInSpan p rows row → IsCongruent p (factor + residue) 0 → IsSame p t' (t ++ scale factor (unit n) row)
    → IsReducedTo p rows v t → IsReducedTo p rows v t'
reduced_more {n} p rows v t t' row factor residue span zero e h = record {
  taken = h.taken ++ scale residue (unit n) row;
  spanned = IsInSpan_append rows h.taken (scale residue (unit n) row) h.spanned (IsInSpan_scale rows residue row span);
  sums = record {
    by_key = λ k.
        let a = coefficient t k in
        let b = coefficient h.taken k in
        let r = coefficient row k in
        let a' = coefficient t' k in
        let new : IsCongruent p a' (a + factor * r) = IsCongruent_trans (e.by_key k) (IsCongruent_of p _ _ (coefficient-append t (scale factor (unit n) row) k ∙ ap (λ x. a + x) (coefficient-scale_unit factor row k))) in
        IsCongruent_trans (h.sums.by_key k)
        (IsCongruent_trans (IsCongruent_of p _ (a + b + 0 * r) (coefficient-append t h.taken k ∙ omega arith))
        (IsCongruent_trans (IsCongruent_add (IsCongruent_refl p (a + b)) (IsCongruent_sym (IsCongruent_multiply zero (IsCongruent_refl p r))))
        (IsCongruent_trans (IsCongruent_of p (a + b + (factor + residue) * r) ((a + factor * r) + (b + residue * r)) (omega arith))
        (IsCongruent_trans (IsCongruent_add (IsCongruent_sym new) (IsCongruent_refl p (b + residue * r)))
        (IsCongruent_of p _ _ (sym (coefficient-append t' (h.taken ++ scale residue (unit n) row) k ∙ ap (λ x. a' + x) (coefficient-append h.taken (scale residue (unit n) row) k ∙ ap (λ x. b + x) (coefficient-scale_unit residue row k)))))))));
  };
}

-- one more row was added
taken_push :
    {n : ℕ} (key : ℕ → Key n) (rows : List RowShown) (taken : List Entry) (t : Entry)
    → taken_sum key rows (taken ++ t ∷ []) ≡ taken_sum key rows taken ++ scale t.1 (unit n) (row_sum key (shown_row_at rows t.0).sources)
taken_push {n} key rows [] t = append-nil (scale t.1 (unit n) (row_sum key (shown_row_at rows t.0).sources))
taken_push {n} key rows (x ∷ taken) t =
    ap (λ r. scale x.1 (unit n) (row_sum key (shown_row_at rows x.0).sources) ++ r) (taken_push key rows taken t)
    ∙ sym (append_assoc (scale x.1 (unit n) (row_sum key (shown_row_at rows x.0).sources)) (taken_sum key rows taken) (scale t.1 (unit n) (row_sum key (shown_row_at rows t.0).sources)))

pub sources_push :
    {n : ℕ} (key : ℕ → Key n) (rows : List RowShown) (row : RowShown) (taken : List Entry) (t : Entry)
    → sources_sum key rows row (taken ++ t ∷ []) ≡ sources_sum key rows row taken ++ scale t.1 (unit n) (row_sum key (shown_row_at rows t.0).sources)
sources_push {n} key rows row taken t =
    ap (λ r. row_sum key row.sources ++ r) (taken_push key rows taken t)
    ∙ sym (append_assoc (row_sum key row.sources) (taken_sum key rows taken) (scale t.1 (unit n) (row_sum key (shown_row_at rows t.0).sources)))

-- the combination of the input rows grows by the same multiple
pub combined_more :
    {n : ℕ} (p : ℕ) → 0 < p → (F : List (FormalSum n)) (key : ℕ → Key n) (rows : List RowShown) (row pivot : RowShown) (taken taken' : List Entry)
    (number factor : ℕ) (t t' : FormalSum n)
    → taken' ≡ taken ++ (number, factor) ∷ [] → pivot ≡ shown_row_at rows number
    → IsSame p (combination F (row_sum (source_key n) pivot.sources)) (row_sum key pivot.entries)
    → IsSame p t' (t ++ scale factor (unit n) (row_sum key pivot.entries))
    → IsSame p (combination F (sources_sum (source_key n) rows row taken)) t
    → IsSame p (combination F (sources_sum (source_key n) rows row taken')) t'
combined_more {n} p pos F key rows row pivot taken taken' number factor t t' more at from e h =
    let old = sources_sum (source_key n) rows row taken in
    let part = scale factor (unit n) (row_sum (source_key n) pivot.sources) in
    let grown : sources_sum (source_key n) rows row taken' ≡ old ++ part =
    ap (sources_sum (source_key n) rows row) more ∙ sources_push (source_key n) rows row taken (number, factor)
    ∙ ap (λ (r : RowShown). old ++ scale factor (unit n) (row_sum (source_key n) r.sources)) (sym at) in
    IsSame_trans (IsSame_of p _ _ (ap (combination F) grown ∙ combination-append F old part ∙ ap (λ x. combination F old ++ x) (combination-scale F factor (unit n) (row_sum (source_key n) pivot.sources))))
    (IsSame_trans (IsSame_append h (IsSame_scale pos factor (unit n) from)) (IsSame_sym e))

-- ---- the record of the way
-- nothing stands at the columns from c to d
pub underway_skip :
    (p limit c d columns count : ℕ) (pivots : List ℕ) (left : List Entry) (numbers : List ℕ) (taken : List Entry)
    → IsRowUnderway p limit c columns count pivots left numbers taken
    → c ≤ d → ((j : ℕ) → c ≤ j → j < d → get_or numbers j 0 ≡ 0)
    → IsRowUnderway p limit d columns count pivots left numbers taken
underway_skip p limit c d columns count pivots left numbers taken h le zeros = record {
  numbered = h.numbered;
  room = h.room;
  small = h.small;
  known = h.known;
  cleared = λ j l. elim (cases_lt j c) [
    | inl before ↦ h.cleared j before
    | inr from ↦ zeros j from l
  ];
  entries = entries_widen p 0 c d left le h.entries;
  free = h.free;
}

module _ (p limit c columns count : ℕ) (pivots : List ℕ) (left : List Entry) (numbers : List ℕ) (taken : List Entry) (h : IsRowUnderway p limit c columns count pivots left numbers taken) (lt : c < length numbers) where
  cleared_more : (j : ℕ) → j < c + 1 → get_or (set numbers c 0) j 0 ≡ 0
  cleared_more j l = elim (cases_eq j c) [
    | inl e ↦ ap (λ k. get_or (set numbers c 0) k 0) e ∙ get_or-set_same numbers c 0 0 lt
    | inr ne ↦ get_or-set_other numbers c j 0 0 ne ∙ h.cleared j (omega arith)
  ]

  small_set : IsDense limit (set numbers c 0)
  small_set =
      let a : get_or numbers c 0 < limit = Each_at (λ a. a < limit) numbers c (get_or numbers c 0) h.small lt (get_or_default numbers c 0 (get_or numbers c 0) lt) in
      Each_set (λ a. a < limit) numbers c 0 h.small (omega arith)

  pub underway_none : IsRowUnderway p limit (c + 1) columns count pivots left (set numbers c 0) taken
  underway_none = record {
    numbered = length-set numbers c 0 ∙ h.numbered;
    room = h.room;
    small = small_set;
    known = h.known;
    cleared = cleared_more;
    entries = entries_widen p 0 c (c + 1) left (omega arith) h.entries;
    free = h.free;
  }

  pub underway_left :
      (r : ℕ) (left' : List Entry)
      → 0 < r → r < p → get_or pivots c 0 ≡ 0 → left' ≡ left ++ (c, r) ∷ []
      → IsRowUnderway p limit (c + 1) columns count pivots left' (set numbers c 0) taken
  underway_left r left' pos small none e = record {
    numbered = length-set numbers c 0 ∙ h.numbered;
    room = h.room;
    small = small_set;
    known = h.known;
    cleared = cleared_more;
    entries = subst (AreEntries p 0 (c + 1)) (sym e) (entries_push p 0 c r left h.entries pos small);
    free = subst (Each (λ x. get_or pivots x.0 0 ≡ 0)) (sym e) (Each_append (λ (x : Entry). get_or pivots x.0 0 ≡ 0) left ((c, r) ∷ []) h.free (none, tt));
  }

  pub underway_pivot :
      (number factor limit' : ℕ) (tail : List Entry) (numbers' : List ℕ) (taken' : List Entry)
      → AreEntries p (c + 1) columns tail → AddsMultiple p factor tail (set numbers c 0) numbers' → number < count → factor < p
      → taken' ≡ taken ++ (number, factor) ∷ [] → HasRoom p limit' → IsDense limit' numbers'
      → IsRowUnderway p limit' (c + 1) columns count pivots left numbers' taken'
  underway_pivot number factor limit' tail numbers' taken' es a known small e room below = record {
    numbered = a.count ∙ length-set numbers c 0 ∙ h.numbered;
    room = room;
    small = below;
    known = subst (AreWithin p count) (sym e) (Each_append (λ (x : Entry). (x.0 < count) × (x.1 < p)) taken ((number, factor) ∷ []) h.known ((known, small), tt));
    cleared = λ j l. a.before j (entries_from p (c + 1) columns j tail es l) ∙ cleared_more j l;
    entries = entries_widen p 0 c (c + 1) left (omega arith) h.entries;
    free = h.free;
  }

-- ---- the pivot of a column
-- its entries begin there, and its vector is that of a row
pub record IsPivot (p c columns inputs : ℕ) (rows : List RowShown) (row : RowShown) : Type 0 where
  pub number : ℕ
  pub within : number < length rows
  pub at : row ≡ shown_row_at rows number
  pub entries : row.entries ≡ (c, 1) ∷ drop 1 row.entries
  pub tail : AreEntries p (c + 1) columns (drop 1 row.entries)

pub pivot_row :
    (p c columns inputs : ℕ) (rows : List RowShown) (number : ℕ)
    → Each (IsRow p columns inputs) rows → number < length rows → lead_column rows number ≡ c
    → IsPivot p c columns inputs rows (shown_row_at rows number)
pivot_row p c columns inputs rows number h lt first =
    let row = shown_row_at rows number in
    let good : IsRow p columns inputs row = Each_at (IsRow p columns inputs) rows number row h lt (get_or_default rows number no_row row lt) in
    let m = monic_entries p 0 columns row.entries good.entries good.monic in
    record {
      number = number;
      within = lt;
      at = refl;
      entries = m.0 ∙ ap (λ x. (x, 1) ∷ drop 1 row.entries) first;
      tail = subst (λ x. AreEntries p (x + 1) columns (drop 1 row.entries)) first m.1;
    }

-- its vector is in the span of the rows
pub pivot_spanned :
    {n : ℕ} (p c columns inputs : ℕ) (rows : List RowShown) (row : RowShown) (key : ℕ → Key n)
    → IsPivot p c columns inputs rows row → IsInSpan p (row_vectors key rows) (row_sum key row.entries)
pivot_spanned {n} p c columns inputs rows row key h =
    subst (IsInSpan p (row_vectors key rows))
    (get_or-map (λ (r : RowShown). row_sum key r.entries) rows h.number no_row [] h.within ∙ ap (λ (r : RowShown). row_sum key r.entries) (sym h.at))
    (IsInSpan_itself p (row_vectors key rows) h.number)

-- it is the combination of the input rows by its sources
pub pivot_combined :
    {n : ℕ} (p c columns inputs : ℕ) (F : List (FormalSum n)) (rows : List RowShown) (row : RowShown) (key : ℕ → Key n)
    → IsPivot p c columns inputs rows row → AreRowsCombined p F key rows
    → IsSame p (combination F (row_sum (source_key n) row.sources)) (row_sum key row.entries)
pivot_combined {n} p c columns inputs F rows row key h g =
    Each_at (λ (r : RowShown). IsSame p (combination F (row_sum (source_key n) r.sources)) (row_sum key r.entries)) rows h.number row g h.within
    (h.at ∙ get_or_default rows h.number no_row row h.within)

-- the factor by which it is added cancels the residue
pub factor_cancels : (p residue : ℕ) → residue < p → IsCongruent p ((p - residue) % p + residue) 0
factor_cancels p residue lt =
    IsCongruent_trans (IsCongruent_add (IsCongruent_mod p (p - residue)) (IsCongruent_refl p residue))
    (IsCongruent_trans (IsCongruent_of p (p - residue + residue) p (omega arith)) (record { same = mod_self p ∙ sym (zero-mod p) }))

-- the number that the code reads, modulo the number that it divides by
pub residue_is :
    (p q c a : ℕ) (numbers : List ℕ)
    → a ≡ get_or numbers c a → c < length numbers → q ≡ p → a % q ≡ get_or numbers c 0 % p
residue_is p q c a numbers e lt f = ap₂ ◌%◌ (e ∙ get_or_default numbers c a 0 lt) f
