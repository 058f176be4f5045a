-- One of eight rows that stand side by side
use Rattle.std.proofs.Common.{Bool, List, [], ap, ap₂, arith, cond, drop, false, get_or, get_or-set_other, get_or-set_same, inl, inr, length, nat_eq, refl, replicate, set, subst, suc, sym, take, true, zero, ℕ, ◌%◌, ◌*◌, ◌+◌, ◌++◌, ◌-◌, ◌<◌, ◌∙◌, ◌∷◌, ◌≡◌, ◌≤◌}
use Rattle.std.proofs.Math.Dec.{eqb}
use Rattle.std.proofs.Math.Nat.{mod-eq_of_lt}
use Rattle.std.proofs.Math.Seq.{take-append_seam}
use Rattle.std.proofs.lemmas.Bool.{cases_eq, cases_lt, eqb-true, ne_eqb}
use Rattle.std.proofs.lemmas.Bool.Decides.{Decides-eqb}
use Rattle.std.proofs.lemmas.List.{get_or_default, length-drop, length-replicate, map-append, take_all, take_more}
use Rattle.std.proofs.lemmas.Slice.Eq.{slice_eq-Decides}
use Rattle.std.specs.Cmp.Lexicographic.{pointwise}
use Rattle.formal_sums.specs.FormalSums.{Each}
use Rattle.term_lists.proofs.Scaling.{Each_at}
use Rattle.row_matrix.specs.Rows.{AreEntries, Entry, IsRow, RowShown, no_row, shown_row_at}
use Rattle.dense_reduction.proofs.Adding.{Each_front, Each_set, product_below}
use Rattle.dense_reduction.proofs.Clearing.{pivot_row}
use Rattle.dense_reduction.proofs.EightSums.{length_lane, zero_at}
use Rattle.dense_reduction.proofs.Entries.{entries_from, entries_within}
use Rattle.dense_reduction.proofs.Reducing.{dense_start, idle_zeros, zeros_idle}
use Rattle.dense_reduction.specs.Dense.{AreWithin, HasRoom, IsDense}
use Rattle.dense_reduction.specs.Eights.{AreAllIdle, AreCleared, AreDense, lane}
use Rattle.dense_reduction.specs.Pivots.{lead_column}
use Rattle.dense_reduction.specs.Together.{IsAdded, lane_left, lane_taken, put_residue}

-- a list that was lent and written
pub written_back : {X : Type 0} (n : ℕ) (new old : List X) → n ≡ length new → take n (new ++ drop (length new) old) ≡ new
written_back n new old e = ap (λ m. take m (new ++ drop (length new) old)) e ∙ take-append_seam new (drop (length new) old)

-- a list with no item
pub none_of : {X : Type 0} (n : ℕ) (xs : List X) → n ≡ length xs → eqb n 0 ≡ true → xs ≡ []
none_of n [] size e = refl
none_of n (x ∷ xs) size e = absurd (let none = eqb-true n 0 e in omega (arith, size, none))

-- the slice behind the first entry of a row
pub behind_first : (es : List Entry) → take (length es - 1) (drop 1 es) ≡ drop 1 es
behind_first es = take_all (length es - 1) (drop 1 es) (omega (arith, length-drop 1 es))

pub tail_is :
    (rows : List RowShown) (k : ℕ) (r : RowShown) (es : List Entry) → k < length rows → es ≡ (get_or rows k r).entries
    → take (length es - 1) (drop 1 es) ≡ drop 1 (shown_row_at rows k).entries
tail_is rows k r es lt e =
    behind_first es ∙ ap (drop 1) (e ∙ ap (λ (x : RowShown). x.entries) (get_or_default rows k r no_row lt))

-- the sources of one of the pass's rows
pub sources_good :
    (p columns inputs : ℕ) (rows own : List RowShown) (k : ℕ) (r : RowShown)
    → Each (IsRow p columns inputs) (rows ++ own) → k < length rows → AreEntries p 0 inputs (get_or rows k r).sources
sources_good p columns inputs rows own k r h lt =
    (Each_at (IsRow p columns inputs) rows k (get_or rows k r) (Each_front (IsRow p columns inputs) rows own h) lt
    (get_or_default rows k r (get_or rows k r) lt)).sources

pub tail_within :
    (p columns inputs : ℕ) (rows : List RowShown) (k : ℕ) → Each (IsRow p columns inputs) rows → k < length rows
    → AreWithin p columns (drop 1 (shown_row_at rows k).entries)
tail_within p columns inputs rows k h lt =
    entries_within p (lead_column rows k + 1) columns (drop 1 (shown_row_at rows k).entries) (pivot_row p (lead_column rows k) columns inputs rows k h lt refl).tail

-- ---- what is left, and the rows that were added
put_append : (c r : ℕ) (es fs : List Entry) → put_residue c r (es ++ fs) ≡ put_residue c r es ++ fs
put_append c r es fs = go (nat_eq r 0)
  where
    go : (b : Bool) → cond b (es ++ fs) ((c, r) ∷ (es ++ fs)) ≡ cond b es ((c, r) ∷ es) ++ fs
    go true = refl
    go false = refl

pub put_none : (c r : ℕ) (es : List Entry) → r ≡ 0 → put_residue c r es ≡ es
put_none c r es e = ap (λ x. put_residue c x es) e

pub put_some : (c r : ℕ) (es : List Entry) → (r ≡ 0 → ⊥) → put_residue c r es ≡ (c, r) ∷ es
put_some c r es n = ap (λ b. cond b es ((c, r) ∷ es)) (ne_eqb r 0 n)

pub lane_left_push :
    (j : ℕ) (left : List (ℕ × List ℕ)) (e : ℕ × List ℕ)
    → lane_left j (left ++ e ∷ []) ≡ lane_left j left ++ put_residue e.0 (get_or e.1 j 0) []
lane_left_push j [] e = refl
lane_left_push j (x ∷ left) e =
    ap (put_residue x.0 (get_or x.1 j 0)) (lane_left_push j left e)
    ∙ put_append x.0 (get_or x.1 j 0) (lane_left j left) (put_residue e.0 (get_or e.1 j 0) [])

pub lane_taken_push :
    (j : ℕ) (taken : List (ℕ × List ℕ)) (e : ℕ × List ℕ)
    → lane_taken j (taken ++ e ∷ []) ≡ lane_taken j taken ++ (e.0, get_or e.1 j 0) ∷ []
lane_taken_push j taken e = map-append (λ (x : ℕ × List ℕ). (x.0, get_or x.1 j 0)) taken (e ∷ [])

-- ---- all numbers
-- zeros stay zeros where one is written
pub zero_set : (xs : List ℕ) (c i : ℕ) → c < length xs → get_or xs i 0 ≡ 0 → get_or (set xs c 0) i 0 ≡ 0
zero_set xs c i lt e = elim (cases_eq i c) [
  | inl same ↦ ap (λ k. get_or (set xs c 0) k 0) same ∙ get_or-set_same xs c 0 0 lt
  | inr ne ↦ get_or-set_other xs c i 0 0 ne ∙ e
]

pub cleared_start :
    (p limit columns : ℕ) (numbers : List (List ℕ))
    → 1 < p → HasRoom p limit → AreAllIdle columns numbers → AreCleared p limit 0 columns numbers
cleared_start p limit columns numbers one room h = record {
  numbered = h.0;
  room = room;
  small = λ j q.
      subst (IsDense limit) (sym (idle_zeros columns (lane j numbers) (length_lane j numbers ∙ h.0, h.1 j q))) (dense_start p limit columns one room);
  cleared = λ j i q l. absurd (omega (arith, l));
}

-- nothing stands at the columns from c to d
pub cleared_skip :
    (p limit c d columns : ℕ) (numbers : List (List ℕ))
    → ((j i : ℕ) → j < 8 → c ≤ i → i < d → get_or (lane j numbers) i 0 ≡ 0) → AreCleared p limit c columns numbers → AreCleared p limit d columns numbers
cleared_skip p limit c d columns numbers zeros h = record {
  numbered = h.numbered;
  room = h.room;
  small = h.small;
  cleared = λ j i q l. elim (cases_lt i c) [
    | inl before ↦ h.cleared j i q before
    | inr from ↦ zeros j i q from l
  ];
}

-- the numbers at a column are taken out, which leaves these residues
pub record IsTakenOut (p c : ℕ) (residues : List ℕ) (old new : List (List ℕ)) : Type 0 where
  pub count : length new ≡ length old
  pub is : (j : ℕ) → j < 8 → get_or residues j 0 ≡ get_or (lane j old) c 0 % p
  pub emptied : (j : ℕ) → j < 8 → lane j new ≡ set (lane j old) c 0

pub taken_out :
    (p c n : ℕ) (residues : List ℕ) (old now new : List (List ℕ))
    → now ≡ old → n ≡ length new → length new ≡ length now
    → ((j : ℕ) → j < 8 → get_or residues j 0 ≡ get_or (lane j now) c 0 % p) → ((j : ℕ) → j < 8 → lane j new ≡ set (lane j now) c 0)
    → IsTakenOut p c residues old (take n (new ++ drop (length new) old))
taken_out p c n residues old now new same e count is emptied =
    subst (IsTakenOut p c residues old) (sym (written_back n new old e)) record {
      count = count ∙ ap length same;
      is = λ j q. is j q ∙ ap (λ xs. get_or (lane j xs) c 0 % p) same;
      emptied = λ j q. emptied j q ∙ ap (λ xs. set (lane j xs) c 0) same;
    }

pub cleared_out :
    (p limit c columns : ℕ) (residues : List ℕ) (numbers numbers' : List (List ℕ))
    → 0 < p → c < columns → IsTakenOut p c residues numbers numbers'
    → AreCleared p limit c columns numbers → AreCleared p limit (c + 1) columns numbers'
cleared_out p limit c columns residues numbers numbers' pos at out h = record {
  numbered = out.count ∙ h.numbered;
  room = h.room;
  small = λ j q.
      let square : 0 * 0 < p * p = product_below p 0 0 pos pos in
      subst (IsDense limit) (sym (out.emptied j q)) (Each_set (λ a. a < limit) (lane j numbers) c 0 (h.small j q)
      (let some = h.room.some in omega (arith, square, some)));
  cleared = λ j i q l.
      let lt : c < length (lane j numbers) = omega (arith, at, length_lane j numbers, h.numbered) in
      ap (λ xs. get_or xs i 0) (out.emptied j q) ∙ elim (cases_eq i c) [
        | inl e ↦ ap (λ k. get_or (set (lane j numbers) c 0) k 0) e ∙ get_or-set_same (lane j numbers) c 0 0 lt
        | inr ne ↦ get_or-set_other (lane j numbers) c i 0 0 ne ∙ h.cleared j i q (omega (arith, l, ne))
      ];
}

-- none is left
pub all_zero : (residues : List ℕ) → pointwise eqb residues (replicate 8 0) ≡ true → (j : ℕ) → j < 8 → get_or residues j 0 ≡ 0
all_zero residues e j q =
    let zero : residues ≡ replicate 8 0 = (slice_eq-Decides Decides-eqb residues (replicate 8 0) _ refl).0 e in
    rw zero (zero_at j q)

-- a row whose first column is c is added behind it
pub cleared_added :
    (p limit limit' c columns : ℕ) (tail : List Entry) (residues factors : List ℕ) (numbers numbers' : List (List ℕ))
    → AreEntries p c columns tail → length numbers' ≡ length numbers → HasRoom p limit' → AreDense limit' numbers'
    → ((j : ℕ) → j < 8 → IsAdded p tail (get_or residues j 0) (get_or factors j 0) (lane j numbers) (lane j numbers'))
    → AreCleared p limit c columns numbers → AreCleared p limit' c columns numbers'
cleared_added p limit limit' c columns tail residues factors numbers numbers' es count room small added h = record {
  numbered = count ∙ h.numbered;
  room = room;
  small = small;
  cleared = λ j i q l. (added j q).adds.before i (entries_from p c columns i tail es l) ∙ h.cleared j i q l;
}

-- all columns are done
pub cleared_idle : (p limit columns : ℕ) (numbers : List (List ℕ)) → AreCleared p limit columns columns numbers → AreAllIdle columns numbers
cleared_idle p limit columns numbers h =
    (h.numbered, λ j q. (zeros_idle columns (lane j numbers) (length_lane j numbers ∙ h.numbered) (λ i lt. h.cleared j i q lt)).1)

-- so many columns with eight zeros
pub all_idle : (columns : ℕ) (numbers : List (List ℕ)) → numbers ≡ replicate columns (replicate 8 0) → AreAllIdle columns numbers
all_idle columns numbers e = subst (AreAllIdle columns) (sym e) (length-replicate columns (replicate 8 0), λ j q. none j q columns)
  where
    none : (j : ℕ) → j < 8 → (m : ℕ) → Each (λ a. a ≡ 0) (lane j (replicate m (replicate 8 0)))
    none j q zero = tt
    none j q (suc m) = (zero_at j q, none j q m)

pub negative_one : (p r : ℕ) → 1 < p → r ≡ (p - 1) % p → r ≡ p - 1
negative_one p r one e = e ∙ mod-eq_of_lt (omega (arith, one))

-- one column more of what is left
pub lane_left_more :
    (j i c r : ℕ) (left : List (ℕ × List ℕ)) (d : ℕ × List ℕ)
    → i < length left → (get_or left i d).0 ≡ c → get_or (get_or left i d).1 j 0 ≡ r
    → lane_left j (take (i + 1) left) ≡ lane_left j (take i left) ++ put_residue c r []
lane_left_more j i c r left d lt ec er =
    ap (lane_left j) (take_more left i d lt) ∙ lane_left_push j (take i left) (get_or left i d)
    ∙ ap₂ (λ x y. lane_left j (take i left) ++ put_residue x y []) ec er
