-- A row of eight on its way
use Rattle.std.proofs.Common.{List, MatchOption, None, Option, Some, [], ap, append-nil, arith, drop, get_or, inl, inr, length, mod-lt, refl, replicate, set, subst, subst₂, suc, sym, zero, ℕ, ◌%◌, ◌+◌, ◌++◌, ◌-◌, ◌<◌, ◌∙◌, ◌∷◌, ◌≡◌, ◌≤◌}
use Rattle.std.proofs.lemmas.Bool.{cases_eq, cases_lt}
use Rattle.std.proofs.lemmas.List.{get_or_append_left, length-append}
use native.Mathlib.Nat.{mod_self, zero-mod}
use Rattle.residues.proofs.Congruences.{IsCongruent_of, IsCongruent_trans}
use Rattle.residues.specs.Residues.{IsCongruent}
use Rattle.formal_sums.proofs.WeightedSums.{Each_append}
use Rattle.formal_sums.specs.FormalSums.{Each}
use Rattle.pivot_table.specs.declared.law.Entry.{Entry as Told}
use Rattle.row_matrix.specs.Rows.{Entry, IsRow, RowShown, no_row, shown_row_at}
use Rattle.dense_reduction.proofs.Clearing.{none_left, one_left, pivot_added, pivot_row, underway_left, underway_none, underway_pivot, underway_skip}
use Rattle.dense_reduction.proofs.EightSums.{length_lane}
use Rattle.dense_reduction.proofs.Entries.{entries_from}
use Rattle.dense_reduction.proofs.Lanes.{IsTakenOut, lane_left_push, lane_taken_push, put_none, put_some, zero_set}
use Rattle.dense_reduction.proofs.Reducing.{idle_zeros, zeros_at}
use Rattle.dense_reduction.proofs.Steps.{first_cleared, gone_row, pivot_entries, pivot_told, reduced_added, reduced_kept, rest_row}
use Rattle.dense_reduction.specs.Dense.{AddsMultiple, HasRoom, IsDense}
use Rattle.dense_reduction.specs.Eights.{AreDense, lane}
use Rattle.dense_reduction.specs.LostRows.{IsLost}
use Rattle.dense_reduction.specs.Pivots.{ArePivots, lead_column}
use Rattle.dense_reduction.specs.Reductions.{IsPivotFor, IsReducedSoFar}
use Rattle.dense_reduction.specs.Together.{AreOnTheirWay, AreRests, IsAdded, IsOnItsWay, IsRowRestOrGone, lane_left, lane_taken, put_residue}
use Rattle.dense_reduction.specs.Underway.{IsLeftRow, IsRowUnderway}
use Rattle.dense_reduction.specs.Words.{IsToldAfter}
use Rattle.dense_reduction.specs.declared.lefts.Lost.{Lost}

-- the rows that were added to row j of the eight, first the one that has its column
abbrev taken_of : ℕ → Lost → ℕ → List (ℕ × List ℕ) → List Entry
taken_of p l j taken = (l.winner, p - 1) ∷ lane_taken j taken

-- ---- all rows
pub ways_map :
    (p limit limit' c c' columns : ℕ) (rows own : List RowShown) (pivots : List ℕ) (told told' : List Told)
    (left left' : List (ℕ × List ℕ)) (numbers numbers' : List (List ℕ)) (taken taken' : List (ℕ × List ℕ))
    → ((j : ℕ) (l : Lost) → j < 8 → IsOnItsWay p limit c columns rows own pivots told left numbers taken j l
    → IsOnItsWay p limit' c' columns rows own pivots told' left' numbers' taken' j l)
    → (j : ℕ) (lost : List Lost) → j + length lost ≤ 8 → AreOnTheirWay p limit c columns rows own pivots told left numbers taken j lost
    → AreOnTheirWay p limit' c' columns rows own pivots told' left' numbers' taken' j lost
ways_map p limit limit' c c' columns rows own pivots told told' left left' numbers numbers' taken taken' f j [] few h = tt
ways_map p limit limit' c c' columns rows own pivots told told' left left' numbers numbers' taken taken' f j (l ∷ lost) few h = (
  f j l (omega (arith, few)) h.0,
  ways_map p limit limit' c c' columns rows own pivots told told' left left' numbers numbers' taken taken' f (j + 1) lost (omega (arith, few)) h.1,
)

pub ways_at :
    (p limit c columns : ℕ) (rows own : List RowShown) (pivots : List ℕ) (told : List Told)
    (left : List (ℕ × List ℕ)) (numbers : List (List ℕ)) (taken : List (ℕ × List ℕ)) (j : ℕ) (lost : List Lost) (i k : ℕ) (x : Lost)
    → k ≡ j + i → i < length lost → x ≡ get_or lost i x → AreOnTheirWay p limit c columns rows own pivots told left numbers taken j lost
    → IsOnItsWay p limit c columns rows own pivots told left numbers taken k x
ways_at p limit c columns rows own pivots told left numbers taken j [] i k x e lt is h = absurd (omega (arith, lt))
ways_at p limit c columns rows own pivots told left numbers taken j (l ∷ lost) zero k x e lt is h =
    subst₂ (IsOnItsWay p limit c columns rows own pivots told left numbers taken) (let same : j ≡ k = omega (arith, e) in same) (sym is) h.0
ways_at p limit c columns rows own pivots told left numbers taken j (l ∷ lost) (suc i) k x e lt is h =
    ways_at p limit c columns rows own pivots told left numbers taken (j + 1) lost i k x (omega (arith, e)) (omega (arith, lt)) is h.1

pub ways_all :
    (p limit c columns : ℕ) (rows own : List RowShown) (pivots : List ℕ) (told : List Told)
    (left : List (ℕ × List ℕ)) (numbers : List (List ℕ)) (taken : List (ℕ × List ℕ)) (j : ℕ) (lost : List Lost)
    → ((i k : ℕ) (x : Lost) → k ≡ j + i → i < length lost → x ≡ get_or lost i x → IsOnItsWay p limit c columns rows own pivots told left numbers taken k x)
    → AreOnTheirWay p limit c columns rows own pivots told left numbers taken j lost
ways_all p limit c columns rows own pivots told left numbers taken j [] f = tt
ways_all p limit c columns rows own pivots told left numbers taken j (l ∷ lost) f = (
  f 0 j l (omega arith) (omega arith) refl,
  ways_all p limit c columns rows own pivots told left numbers taken (j + 1) lost
      (λ i k x e lt is. f (suc i) k x (omega (arith, e)) (omega (arith, lt)) is),
)

-- ---- one row
-- it is in its row of numbers alone
pub way_same :
    (p limit limit' c columns : ℕ) (rows own : List RowShown) (pivots : List ℕ) (told : List Told)
    (left left' : List (ℕ × List ℕ)) (numbers numbers' : List (List ℕ)) (taken taken' : List (ℕ × List ℕ)) (j : ℕ) (l : Lost)
    → limit' ≡ limit → left' ≡ left → taken' ≡ taken → lane j numbers' ≡ lane j numbers
    → IsOnItsWay p limit c columns rows own pivots told left numbers taken j l
    → IsOnItsWay p limit' c columns rows own pivots told left' numbers' taken' j l
way_same p limit limit' c columns rows own pivots told left left' numbers numbers' taken taken' j l e el et en h =
    subst (λ m. IsOnItsWay p m c columns rows own pivots told left' numbers' taken' j l) (sym e)
    (subst (λ es. IsOnItsWay p limit c columns rows own pivots told es numbers' taken' j l) (sym el)
    (subst (λ ts. IsOnItsWay p limit c columns rows own pivots told left numbers' ts j l) (sym et) record {
      under = subst (λ xs. IsRowUnderway p limit c columns (length (rows ++ own)) pivots (lane_left j left) xs (taken_of p l j taken)) (sym en) h.under;
      reduced =
          subst (λ xs. IsReducedSoFar p (lead_column rows l.number + 1) rows own told (shown_row_at rows l.number) (lane_left j left) xs (taken_of p l j taken))
          (sym en) h.reduced;
      behind = λ i le. ap (λ xs. get_or xs i 0) en ∙ h.behind i le;
    }))

-- nothing stands at the columns from c to d
pub way_skip :
    (p limit c d columns : ℕ) (rows own : List RowShown) (pivots : List ℕ) (told : List Told)
    (left : List (ℕ × List ℕ)) (numbers : List (List ℕ)) (taken : List (ℕ × List ℕ)) (j : ℕ) (l : Lost)
    → c ≤ d → ((i : ℕ) → c ≤ i → i < d → get_or (lane j numbers) i 0 ≡ 0)
    → IsOnItsWay p limit c columns rows own pivots told left numbers taken j l
    → IsOnItsWay p limit d columns rows own pivots told left numbers taken j l
way_skip p limit c d columns rows own pivots told left numbers taken j l le zeros h = record {
  under = underway_skip p limit c d columns (length (rows ++ own)) pivots (lane_left j left) (lane j numbers) (taken_of p l j taken) h.under le zeros;
  reduced = h.reduced;
  behind = h.behind;
}

module _ (p limit c columns : ℕ) (rows own : List RowShown) (pivots : List ℕ) (told told' : List Told)
    (left : List (ℕ × List ℕ)) (numbers : List (List ℕ)) (taken : List (ℕ × List ℕ)) (j r : ℕ) (l : Lost)
    (pos : 0 < p) (at : c < columns) (follows : IsToldAfter told told') (is : r ≡ get_or (lane j numbers) c 0 % p)
    (h : IsOnItsWay p limit c columns rows own pivots told left numbers taken j l) where
  inside : c < length (lane j numbers)
  inside = omega (arith, at, h.under.numbered)

  -- where something is left, the row's first column is before it
  above : (r ≡ 0 → ⊥) → lead_column rows l.number < c
  above some = elim (cases_lt (lead_column rows l.number) c) [
    | inl lt ↦ lt
    | inr le ↦ absurd (some (is ∙ ap (λ x. x % p) (h.behind c le) ∙ zero-mod p))
  ]

  -- nothing stood there
  pub way_none :
      (left' : List (ℕ × List ℕ)) (numbers' : List (List ℕ))
      → r ≡ 0 → lane_left j left' ≡ lane_left j left → lane j numbers' ≡ set (lane j numbers) c 0
      → IsOnItsWay p limit (c + 1) columns rows own pivots told' left' numbers' taken j l
  way_none left' numbers' z el en = record {
    under =
        subst₂ (λ es xs. IsRowUnderway p limit (c + 1) columns (length (rows ++ own)) pivots es xs (taken_of p l j taken)) (sym el) (sym en)
        (underway_none p limit c columns (length (rows ++ own)) pivots (lane_left j left) (lane j numbers) (taken_of p l j taken) h.under inside);
    reduced =
        subst₂ (λ es xs. IsReducedSoFar p (lead_column rows l.number + 1) rows own told' (shown_row_at rows l.number) es xs (taken_of p l j taken)) (sym el) (sym en)
        (reduced_kept p (lead_column rows l.number + 1) rows own told told' (shown_row_at rows l.number) (lane_left j left) (lane_left j left)
        (lane j numbers) (set (lane j numbers) c 0) (taken_of p l j taken) follows h.reduced.above
        (λ n key. none_left p pos key c r (lane j numbers) inside is (lane_left j left) z) h.reduced);
    behind = λ i le. ap (λ xs. get_or xs i 0) en ∙ zero_set (lane j numbers) c i inside (h.behind i le);
  }

  -- what stood there is left
  pub way_left :
      (left' : List (ℕ × List ℕ)) (numbers' : List (List ℕ))
      → (r ≡ 0 → ⊥) → r < p → get_or pivots c 0 ≡ 0 → lane_left j left' ≡ lane_left j left ++ (c, r) ∷ [] → lane j numbers' ≡ set (lane j numbers) c 0
      → IsOnItsWay p limit (c + 1) columns rows own pivots told' left' numbers' taken j l
  way_left left' numbers' some small none el en = record {
    under =
        subst (λ xs. IsRowUnderway p limit (c + 1) columns (length (rows ++ own)) pivots (lane_left j left') xs (taken_of p l j taken)) (sym en)
        (underway_left p limit c columns (length (rows ++ own)) pivots (lane_left j left) (lane j numbers) (taken_of p l j taken) h.under inside
        r (lane_left j left') (omega (arith, some)) small none el);
    reduced =
        subst₂ (λ es xs. IsReducedSoFar p (lead_column rows l.number + 1) rows own told' (shown_row_at rows l.number) es xs (taken_of p l j taken)) (sym el) (sym en)
        (reduced_kept p (lead_column rows l.number + 1) rows own told told' (shown_row_at rows l.number) (lane_left j left) (lane_left j left ++ (c, r) ∷ [])
        (lane j numbers) (set (lane j numbers) c 0) (taken_of p l j taken) follows
        (Each_append (λ (e : Entry). lead_column rows l.number + 1 ≤ e.0) (lane_left j left) ((c, r) ∷ []) h.reduced.above
        ((let lt = above some in omega (arith, lt)), tt))
        (λ n key. one_left p pos key c r (lane j numbers) inside is (lane_left j left)) h.reduced);
    behind = λ i le. ap (λ xs. get_or xs i 0) en ∙ zero_set (lane j numbers) c i inside (h.behind i le);
  }

  -- the column's residues of all are left
  pub way_pushed :
      (residues : List ℕ) (left' : List (ℕ × List ℕ)) (numbers' : List (List ℕ))
      → r ≡ get_or residues j 0 → r < p → get_or pivots c 0 ≡ 0 → left' ≡ left ++ (c, residues) ∷ [] → lane j numbers' ≡ set (lane j numbers) c 0
      → IsOnItsWay p limit (c + 1) columns rows own pivots told' left' numbers' taken j l
  way_pushed residues left' numbers' e small none el en =
      let more : lane_left j left' ≡ lane_left j left ++ put_residue c r [] =
      ap (lane_left j) el ∙ lane_left_push j left (c, residues) ∙ ap (λ x. lane_left j left ++ put_residue c x []) (sym e) in
      elim (cases_eq r 0) [
        | inl z ↦ way_none left' numbers' z (more ∙ ap (λ es. lane_left j left ++ es) (put_none c r [] z) ∙ append-nil (lane_left j left)) en
        | inr some ↦ way_left left' numbers' some small none (more ∙ ap (λ es. lane_left j left ++ es) (put_some c r [] some)) en
      ]

  -- the column's pivot is added
  pub way_added :
      (number limit' inputs : ℕ) (residues factors : List ℕ) (middle numbers' : List (List ℕ)) (taken' : List (ℕ × List ℕ))
      → Each (IsRow p columns inputs) rows → Each (IsRow p columns inputs) own → IsPivotFor p rows own told' c number
      → r ≡ get_or residues j 0 → lane j middle ≡ set (lane j numbers) c 0
      → IsAdded p (drop 1 (shown_row_at (rows ++ own) number).entries) (get_or residues j 0) (get_or factors j 0) (lane j middle) (lane j numbers')
      → taken' ≡ taken ++ (number, factors) ∷ [] → HasRoom p limit' → IsDense limit' (lane j numbers')
      → IsOnItsWay p limit' (c + 1) columns rows own pivots told' left numbers' taken' j l
  way_added number limit' inputs residues factors middle numbers' taken' good more pivot e en a et room small =
      let f = get_or factors j 0 in
      let tail = drop 1 (shown_row_at (rows ++ own) number).entries in
      let g = pivot_entries p c columns inputs number rows own told' good more pivot in
      let adds : AddsMultiple p f tail (set (lane j numbers) c 0) (lane j numbers') = subst (λ xs. AddsMultiple p f tail xs (lane j numbers')) en a.adds in
      let cancels : IsCongruent p (f + r) 0 = subst (λ x. IsCongruent p (f + x) 0) (sym e) a.cancels in
      let T = taken_of p l j taken in
      let T' = taken_of p l j taken' in
      let grown : T' ≡ T ++ (number, f) ∷ [] =
      ap (taken_of p l j) et ∙ ap (λ ts. (l.winner, p - 1) ∷ ts) (lane_taken_push j taken (number, factors)) in
      let under : IsRowUnderway p limit' (c + 1) columns (length (rows ++ own)) pivots (lane_left j left) (lane j numbers') T' =
      underway_pivot p limit c columns (length (rows ++ own)) pivots (lane_left j left) (lane j numbers) T h.under inside
      number f limit' tail (lane j numbers') T' g.tail adds pivot.known a.small grown room small in
      record {
        under = under;
        reduced =
            reduced_added p (lead_column rows l.number + 1) c number f r rows own told told' (shown_row_at rows l.number) (lane_left j left) (lane_left j left)
            (lane j numbers) (lane j numbers') T T' pos follows pivot cancels refl grown
            (λ n key. pivot_added p pos key c r (lane j numbers) inside is (lane_left j left) (shown_row_at (rows ++ own) number).entries tail f (lane j numbers')
            g.entries cancels (adds.sum n key)) h.reduced;
        behind = λ i le. elim (cases_eq r 0) [
          | inl z ↦ ap (λ xs. get_or xs i 0) ((a.idle (sym e ∙ z)).1 ∙ en) ∙ zero_set (lane j numbers) c i inside (h.behind i le)
          | inr some ↦ under.cleared i (let lt = above some in omega (arith, lt, le))
        ];
      }

-- the row that has its column is added
pub way_start :
    (p limit columns inputs : ℕ) (rows own : List RowShown) (pivots : List ℕ) (known : List Told)
    (left : List (ℕ × List ℕ)) (zeros between numbers : List (List ℕ)) (taken : List (ℕ × List ℕ)) (j : ℕ) (l : Lost)
    → 1 < p → Each (IsRow p columns inputs) rows → IsLost rows known l → left ≡ [] → taken ≡ []
    → length zeros ≡ columns → Each (λ a. a ≡ 0) (lane j zeros)
    → AddsMultiple p 1 (drop 1 (shown_row_at rows l.number).entries) (lane j zeros) (lane j between)
    → AddsMultiple p (p - 1) (drop 1 (shown_row_at rows l.winner).entries) (lane j between) (lane j numbers)
    → HasRoom p limit → IsDense limit (lane j numbers)
    → IsOnItsWay p limit 0 columns rows own pivots known left numbers taken j l
way_start p limit columns inputs rows own pivots known left zeros between numbers taken j l one good lost el et count idle a a' room small =
    let pos : 0 < p = omega (arith, one) in
    let c = lead_column rows l.number in
    let g = pivot_row p c columns inputs rows l.number good lost.known refl in
    let g' = pivot_row p c columns inputs rows l.winner good lost.held.known lost.held.lead in
    let zero : lane j zeros ≡ replicate columns 0 = idle_zeros columns (lane j zeros) (length_lane j zeros ∙ count, idle) in
    let there : shown_row_at (rows ++ own) l.winner ≡ shown_row_at rows l.winner = get_or_append_left rows own no_row l.winner lost.held.known in
    let first : (shown_row_at (rows ++ own) l.winner).entries ≡ (c, 1) ∷ drop 1 (shown_row_at rows l.winner).entries =
    ap (λ (r : RowShown). r.entries) there ∙ g'.entries in
    let cancels : IsCongruent p (p - 1 + 1) 0 =
    IsCongruent_trans (IsCongruent_of p (p - 1 + 1) p (omega (arith, one))) (record { same = mod_self p ∙ sym (zero-mod p) }) in
    subst (λ es. IsOnItsWay p limit 0 columns rows own pivots known es numbers taken j l) (sym el)
    (subst (λ ts. IsOnItsWay p limit 0 columns rows own pivots known [] numbers ts j l) (sym et) record {
      under = record {
        numbered = a'.count ∙ a.count ∙ length_lane j zeros ∙ count;
        room = room;
        small = small;
        known = ((omega (arith, length-append rows own, lost.held.known), omega (arith, one)), tt);
        cleared = λ i lt. absurd (omega (arith, lt));
        entries = (let w : 0 ≤ 0 = omega arith in w);
        free = tt;
      };
      reduced =
          first_cleared p c columns l.winner (p - 1) rows own known (shown_row_at rows l.number) (drop 1 (shown_row_at rows l.winner).entries)
          (lane j zeros) (lane j between) (lane j numbers) [] ((l.winner, p - 1) ∷ [])
          pos (pivot_told p c l.winner rows own known lost.held) g.entries first zero a a' cancels refl refl;
      behind = λ i le.
          let lt : i < c + 1 = omega (arith, le) in
          a'.before i (entries_from p (c + 1) columns i (drop 1 (shown_row_at rows l.winner).entries) g'.tail lt)
          ∙ a.before i (entries_from p (c + 1) columns i (drop 1 (shown_row_at rows l.number).entries) g.tail lt)
          ∙ ap (λ xs. get_or xs i 0) zero ∙ zeros_at columns i;
    })

-- ---- the steps of all rows
-- nothing stands at the columns from c to d
pub ways_skip :
    (p limit c d columns : ℕ) (rows own : List RowShown) (pivots : List ℕ) (told : List Told)
    (left : List (ℕ × List ℕ)) (numbers : List (List ℕ)) (taken : List (ℕ × List ℕ)) (lost : List Lost)
    → length lost ≤ 8 → c ≤ d → ((j i : ℕ) → j < 8 → c ≤ i → i < d → get_or (lane j numbers) i 0 ≡ 0)
    → AreOnTheirWay p limit c columns rows own pivots told left numbers taken 0 lost
    → AreOnTheirWay p limit d columns rows own pivots told left numbers taken 0 lost
ways_skip p limit c d columns rows own pivots told left numbers taken lost few le zeros h =
    ways_map p limit limit c d columns rows own pivots told told left left numbers numbers taken taken
    (λ j l q w. way_skip p limit c d columns rows own pivots told left numbers taken j l le (λ i from lt. zeros j i q from lt) w) 0 lost (omega (arith, few)) h

module _ (p limit c columns : ℕ) (rows own : List RowShown) (pivots : List ℕ) (told told' : List Told)
    (left : List (ℕ × List ℕ)) (numbers middle : List (List ℕ)) (taken : List (ℕ × List ℕ)) (residues : List ℕ) (lost : List Lost)
    (pos : 0 < p) (at : c < columns) (few : length lost ≤ 8) (follows : IsToldAfter told told') (out : IsTakenOut p c residues numbers middle)
    (h : AreOnTheirWay p limit c columns rows own pivots told left numbers taken 0 lost) where
  -- nothing stood there
  pub ways_none :
      ((j : ℕ) → j < 8 → get_or residues j 0 ≡ 0)
      → AreOnTheirWay p limit (c + 1) columns rows own pivots told' left middle taken 0 lost
  ways_none zeros =
      ways_map p limit limit c (c + 1) columns rows own pivots told told' left left numbers middle taken taken
      (λ j l q w. way_none p limit c columns rows own pivots told told' left numbers taken j (get_or residues j 0) l pos at follows (out.is j q) w
      left middle (zeros j q) refl (out.emptied j q)) 0 lost (omega (arith, few)) h

  -- what stood there is left
  pub ways_pushed :
      (left' : List (ℕ × List ℕ)) → get_or pivots c 0 ≡ 0 → left' ≡ left ++ (c, residues) ∷ []
      → AreOnTheirWay p limit (c + 1) columns rows own pivots told' left' middle taken 0 lost
  ways_pushed left' none el =
      ways_map p limit limit c (c + 1) columns rows own pivots told told' left left' numbers middle taken taken
      (λ j l q w. way_pushed p limit c columns rows own pivots told told' left numbers taken j (get_or residues j 0) l pos at follows (out.is j q) w
      residues left' middle refl (subst (λ x. x < p) (sym (out.is j q)) (mod-lt (get_or (lane j numbers) c 0) pos)) none el (out.emptied j q))
      0 lost (omega (arith, few)) h

  -- the column's pivot is added
  pub ways_added :
      (number limit' inputs : ℕ) (factors : List ℕ) (left' : List (ℕ × List ℕ)) (numbers' : List (List ℕ)) (taken' : List (ℕ × List ℕ))
      → Each (IsRow p columns inputs) rows → Each (IsRow p columns inputs) own → IsPivotFor p rows own told' c number
      → ((j : ℕ) → j < 8
      → IsAdded p (drop 1 (shown_row_at (rows ++ own) number).entries) (get_or residues j 0) (get_or factors j 0) (lane j middle) (lane j numbers'))
      → left' ≡ left → taken' ≡ taken ++ (number, factors) ∷ [] → HasRoom p limit' → AreDense limit' numbers'
      → AreOnTheirWay p limit' (c + 1) columns rows own pivots told' left' numbers' taken' 0 lost
  ways_added number limit' inputs factors left' numbers' taken' good more pivot added el et room small =
      subst (λ es. AreOnTheirWay p limit' (c + 1) columns rows own pivots told' es numbers' taken' 0 lost) (sym el)
      (ways_map p limit limit' c (c + 1) columns rows own pivots told told' left left numbers numbers' taken taken'
      (λ j l q w. way_added p limit c columns rows own pivots told told' left numbers taken j (get_or residues j 0) l pos at follows (out.is j q) w
      number limit' inputs residues factors middle numbers' taken' good more pivot refl (out.emptied j q) (added j q) et room (small j q))
      0 lost (omega (arith, few)) h)

-- ---- what is left of it
pub way_rest :
    (p limit columns inputs : ℕ) (rows own : List RowShown) (pivots : List ℕ) (known : List Told)
    (left : List (ℕ × List ℕ)) (numbers : List (List ℕ)) (taken : List (ℕ × List ℕ)) (j : ℕ) (l : Lost) (rest : Option RowShown)
    → 0 < p → ArePivots p columns inputs own pivots
    → MatchOption rest (lane_left j left ≡ [])
    (IsLeftRow p columns inputs (rows ++ own) (shown_row_at rows l.number) (lane_left j left) (taken_of p l j taken))
    → IsOnItsWay p limit columns columns rows own pivots known left numbers taken j l
    → IsRowRestOrGone p columns inputs rows own known (shown_row_at rows l.number) rest
way_rest p limit columns inputs rows own pivots known left numbers taken j l None pos h e w =
    gone_row p (lead_column rows l.number + 1) limit columns inputs (length (rows ++ own)) pos rows own known pivots (shown_row_at rows l.number)
    (lane_left j left) (lane j numbers) (taken_of p l j taken) w.under w.reduced e
way_rest p limit columns inputs rows own pivots known left numbers taken j l (Some r) pos h e w =
    rest_row p (lead_column rows l.number + 1) limit columns inputs (length (rows ++ own)) pos rows own known pivots (shown_row_at rows l.number)
    (lane_left j left) (lane j numbers) (taken_of p l j taken) w.under w.reduced r h e

-- in the code's words
pub way_left_over :
    (p limit columns inputs : ℕ) (rows own : List RowShown) (pivots : List ℕ) (known : List Told)
    (left : List (ℕ × List ℕ)) (numbers : List (List ℕ)) (taken : List (ℕ × List ℕ)) (j : ℕ) (l : Lost) (rest : Option RowShown)
    (m : ℕ) (row : RowShown) (es ts : List Entry)
    → 0 < p → ArePivots p columns inputs own pivots → m ≡ columns → row ≡ shown_row_at rows l.number
    → es ≡ lane_left j left → ts ≡ taken_of p l j taken
    → MatchOption rest (es ≡ []) (IsLeftRow p m inputs (rows ++ own) row es ts)
    → IsOnItsWay p limit columns columns rows own pivots known left numbers taken j l
    → IsRowRestOrGone p columns inputs rows own known (shown_row_at rows l.number) rest
way_left_over p limit columns inputs rows own pivots known left numbers taken j l rest m row es ts pos h em er ee et e w =
    way_rest p limit columns inputs rows own pivots known left numbers taken j l rest pos h
    (subst₂ (λ k r. MatchOption rest (lane_left j left ≡ []) (IsLeftRow p k inputs (rows ++ own) r (lane_left j left) (taken_of p l j taken))) em er
    (subst₂ (λ xs ys. MatchOption rest (xs ≡ []) (IsLeftRow p m inputs (rows ++ own) row xs ys)) ee et e)) w

-- one row more
pub rests_push :
    (p columns inputs : ℕ) (rows own : List RowShown) (known : List Told) (lost : List Lost) (rests : List (Option RowShown)) (l : Lost) (r : Option RowShown)
    → IsRowRestOrGone p columns inputs rows own known (shown_row_at rows l.number) r → AreRests p columns inputs rows own known lost rests
    → AreRests p columns inputs rows own known (lost ++ l ∷ []) (rests ++ r ∷ [])
rests_push p columns inputs rows own known [] [] l r one h = (one, tt)
rests_push p columns inputs rows own known [] (x ∷ rests) l r one h = absurd h
rests_push p columns inputs rows own known (x ∷ lost) [] l r one h = absurd h
rests_push p columns inputs rows own known (x ∷ lost) (y ∷ rests) l r one h =
    (h.0, rests_push p columns inputs rows own known lost rests l r one h.1)
