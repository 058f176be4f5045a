-- Rows whose first column has a flag, and those whose has none
use Rattle.std.proofs.Common.{Bool, List, [], ap, arith, cond, false, get_or, get_or-set_other, get_or-set_same, inl, inr, length, refl, replicate, set, subst, suc, sym, take, true, zero, ℕ, ◌+◌, ◌<◌, ◌∙◌, ◌∷◌, ◌≡◌, ◌⊎◌}
use Rattle.std.proofs.lemmas.Bool.{cases_eq}
use Rattle.std.proofs.lemmas.List.{get_or_append_left, get_or_push, length_push}
use Rattle.formal_sums.specs.FormalSums.{Each}
use Rattle.term_lists.proofs.Scaling.{take_item}
use Rattle.row_matrix.specs.Rows.{RowShown, first_column, no_row, shown_row_at}
use Rattle.dense_reduction.specs.Pivots.{lead_column}
use Rattle.f4_job.specs.Flags.{AreFlags, unflagged}

-- ---- flags
pub flags_more :
    (rows : List RowShown) (i : ℕ) (x : RowShown) (flags : List Bool) (at : ℕ)
    → AreFlags (take i rows) flags → i < length rows → x ≡ get_or rows i x → at ≡ first_column x.entries → at < length flags
    → AreFlags (take (i + 1) rows) (set flags at true)
flags_more rows i x flags at h lt is e bound = subst (λ xs. AreFlags xs (set flags at true)) (sym (take_item rows i x lt is)) (record {
  set = λ c f. elim (cases_eq c at) [
    | inl g ↦ (
      length past,
      omega (arith, length_push past x),
      ap (λ (r : RowShown). first_column r.entries) (get_or_push past x no_row (length past) refl)
          ∙ sym e ∙ sym g,
    )
    | inr ne ↦
        let o = h.set c (sym (get_or-set_other flags at c true false ne) ∙ f) in
        (o.0, omega (arith, o.1, length_push past x), ap (λ (r : RowShown). first_column r.entries) (get_or_append_left past (x ∷ []) no_row o.0 o.1) ∙ o.2)
  ];
  leads = λ j l. elim (cases_eq j (length past)) [
    | inl g ↦
        ap (λ c. get_or (set flags at true) c false) (ap (λ (r : RowShown). first_column r.entries) (get_or_push past x no_row j (sym g)) ∙ sym e)
        ∙ get_or-set_same flags at true false bound
    | inr ne ↦
        let l' : j < length past = omega (arith, length_push past x) in
        let o = h.leads j l' in
        let c = lead_column past j in
        ap (λ c. get_or (set flags at true) c false) (ap (λ (r : RowShown). first_column r.entries) (get_or_append_left past (x ∷ []) no_row j l'))
        ∙ elim (cases_eq c at) [
          | inl g ↦ ap (λ c. get_or (set flags at true) c false) g ∙ get_or-set_same flags at true false bound
          | inr other ↦ get_or-set_other flags at c true false other ∙ o
        ]
  ];
})
  where
    past : List RowShown
    past = take i rows

pub flags_none : (flags : List Bool) (m : ℕ) → flags ≡ replicate m false → AreFlags [] flags
flags_none flags m e = record {
  set = λ c f. absurd (let z : false ≡ true = sym (none m c) ∙ ap (λ xs. get_or xs c false) (sym e) ∙ f in cc);
  leads = λ i l. absurd (omega arith);
}
  where
    none : (m c : ℕ) → get_or (replicate m false) c false ≡ false
    none zero c = refl
    none (suc m) zero = refl
    none (suc m) (suc c) = none m c

-- ---- rows without a flag
pub unflagged_each : (P : RowShown → Type 0) (flags : List Bool) (rows : List RowShown) → Each P rows → Each P (unflagged flags rows)
unflagged_each P flags [] h = tt
unflagged_each P flags (r ∷ rows) h = go (unflagged_each P flags rows h.1) (get_or flags (first_column r.entries) false)
  where
    go : Each P (unflagged flags rows) → (b : Bool) → Each P (cond b (unflagged flags rows) (r ∷ unflagged flags rows))
    go ih true = ih
    go ih false = (h.0, ih)

-- the row with this number is one of the rows, without a flag
abbrev pub IsUnflaggedRow : List Bool → List RowShown → RowShown → Type 0
IsUnflaggedRow flags rows r = (j : ℕ) × (j < length rows) × (shown_row_at rows j ≡ r) × (get_or flags (first_column r.entries) false ≡ false)

pub unflagged_from : (flags : List Bool) (rows : List RowShown) (k : ℕ) → k < length (unflagged flags rows)
    → IsUnflaggedRow flags rows (shown_row_at (unflagged flags rows) k)
unflagged_from flags [] k lt = absurd (omega arith)
unflagged_from flags (r ∷ rows) k lt = go (λ i l. unflagged_from flags rows i l) (get_or flags (first_column r.entries) false) refl k lt
  where
    shift_row : (x : RowShown) → IsUnflaggedRow flags rows x → IsUnflaggedRow flags (r ∷ rows) x
    shift_row x h = (suc h.0, omega (arith, h.1), h.2, h.3)

    go : ((i : ℕ) → i < length (unflagged flags rows) → IsUnflaggedRow flags rows (shown_row_at (unflagged flags rows) i))
        → (b : Bool) → get_or flags (first_column r.entries) false ≡ b → (k : ℕ) → k < length (cond b (unflagged flags rows) (r ∷ unflagged flags rows))
        → IsUnflaggedRow flags (r ∷ rows) (shown_row_at (cond b (unflagged flags rows) (r ∷ unflagged flags rows)) k)
    go ih true e k l = shift_row (shown_row_at (unflagged flags rows) k) (ih k l)
    go ih false e zero l = (0, omega arith, refl, e)
    go ih false e (suc k) l = shift_row (shown_row_at (unflagged flags rows) k) (ih k (omega arith))

pub unflagged_all : (flags : List Bool) (rows : List RowShown) (j : ℕ) → j < length rows
    → (get_or flags (lead_column rows j) false ≡ true) ⊎ ((k : ℕ) × (k < length (unflagged flags rows)) × (shown_row_at (unflagged flags rows) k ≡ shown_row_at rows j))
unflagged_all flags [] j lt = absurd (omega arith)
unflagged_all flags (r ∷ rows) j lt = go (λ i l. unflagged_all flags rows i l) (get_or flags (first_column r.entries) false) refl j lt
  where
    go : ((i : ℕ) → i < length rows
        → (get_or flags (lead_column rows i) false ≡ true) ⊎
        ((k : ℕ) × (k < length (unflagged flags rows)) × (shown_row_at (unflagged flags rows) k ≡ shown_row_at rows i)))
        → (b : Bool) → get_or flags (first_column r.entries) false ≡ b → (j : ℕ) → j < length (r ∷ rows)
        → (get_or flags (lead_column (r ∷ rows) j) false ≡ true) ⊎
        ((k : ℕ) × (k < length (cond b (unflagged flags rows) (r ∷ unflagged flags rows)))
        × (shown_row_at (cond b (unflagged flags rows) (r ∷ unflagged flags rows)) k ≡ shown_row_at (r ∷ rows) j))
    go ih true e zero l = inl e
    go ih false e zero l = inr (0, omega arith, refl)
    go ih true e (suc j) l = ih j (omega arith)
    go ih false e (suc j) l = elim (ih j (omega arith)) [
      | inl f ↦ inl f
      | inr h ↦ inr (suc h.0, omega (arith, h.1), h.2)
    ]
