-- Rows that come one after another behind a helper's own ones
use Rattle.std.proofs.Common.{List, None, Option, Some, [], ap, append-nil, append_assoc, arith, drop, get_or, inl, inr, length, refl, set, slice_range, subst, subst₂, suc, sym, take, take-add, ℕ, ◌+◌, ◌++◌, ◌-◌, ◌<◌, ◌∙◌, ◌∷◌, ◌≡◌, ◌≤◌}
use Rattle.std.proofs.lemmas.List.{drop_more, length-map, map-append, take-append-drop}
use Rattle.formal_sums.proofs.Combining.{Each_map}
use Rattle.formal_sums.proofs.WeightedSums.{Each_append}
use Rattle.formal_sums.specs.FormalSums.{Each}
use Rattle.pivot_table.specs.declared.law.Entry.{Entry as Told}
use Rattle.row_matrix.specs.Rows.{IsRow, RowShown, first_column, shown_row_at}
use Rattle.dense_reduction.proofs.Adding.{Each_back, Each_front}
use Rattle.dense_reduction.proofs.Claimed.{all_lost_stay, item_taken}
use Rattle.dense_reduction.proofs.Entries.{first_below}
use Rattle.dense_reduction.proofs.Naming.{follows_same, told_before}
use Rattle.dense_reduction.proofs.Reducing.{span_last}
use Rattle.dense_reduction.proofs.Steps.{least_above}
use Rattle.dense_reduction.specs.LostRows.{IsLost, numbers}
use Rattle.dense_reduction.specs.Pivots.{ArePivots, lead_column}
use Rattle.dense_reduction.specs.Reductions.{least_left}
use Rattle.dense_reduction.specs.Rests.{IsGone, IsRowLeft, IsRestFrom, rows_left}
use Rattle.dense_reduction.specs.Together.{AreRests, IsRowRestOrGone}
use Rattle.dense_reduction.specs.Underway.{AreRowsCombined, IsSpanned}
use Rattle.dense_reduction.specs.Words.{IsToldAfter, named}
use Rattle.dense_reduction.specs.declared.lefts.Left.{Left}
use Rattle.dense_reduction.specs.declared.lefts.Lost.{Lost}
use Rattle.row_reduce.proofs.Echelons.{pivots_more}
use Rattle.row_reduce.proofs.HelpedRows.{helped_later, helped_more, spanned_left, spanned_more, spanned_rows, spanned_through}
use Rattle.row_reduce.specs.Passes.{AreHelped}
use Rattle.row_reduce.specs.Replaced.{AreReplaced, IsLowered, IsReplaced, IsRestKept}

-- ---- parts of a list
pub taken_range : {X : Type 0} (xs : List X) (from to : ℕ) → from ≤ to → take from xs ++ slice_range xs from to ≡ take to xs
taken_range xs from to le =
    let e : from + (to - from) ≡ to = omega arith in
    sym (take-add from (to - from) xs) ∙ ap (λ n. take n xs) e

pub Each_range : {X : Type 0} (P : X → Type 0) (xs : List X) (from to : ℕ) → Each P xs → Each P (slice_range xs from to)
Each_range P xs from to h =
    Each_front P (take (to - from) (drop from xs)) (drop (to - from) (drop from xs))
    (subst (Each P) (sym (take-append-drop (to - from) (drop from xs)))
    (Each_back P (take from xs) (drop from xs) (subst (Each P) (sym (take-append-drop from xs)) h)))

-- a list of which no item was taken has none
pub none_popped : {X : Type 0} (xs ys : List X) → xs ≡ ys → ys ≡ drop 1 xs → xs ≡ []
none_popped [] ys e e' = refl
none_popped (x ∷ xs) ys e e' = absurd (let q : suc (length xs) ≡ length xs = ap length (e ∙ e') in omega arith)

-- ---- what is left of a row, under more own rows
rows_more : (p : ℕ) (A B C : List RowShown) → Each (IsSpanned p (A ++ (B ++ C))) (A ++ B)
rows_more p A B C =
    Each_map (IsSpanned p (A ++ B)) (IsSpanned p (A ++ (B ++ C))) (A ++ B) (λ x s. spanned_more p A B C x s) (spanned_rows p (A ++ B))

-- what rows span, these rows and r span it too
one_behind : (p : ℕ) (A B : List RowShown) (r : RowShown) → Each (IsSpanned p A) B → Each (IsSpanned p (A ++ r ∷ [])) B
one_behind p A B r h = Each_map (IsSpanned p A) (IsSpanned p (A ++ r ∷ [])) B (λ x s. spanned_left p A (r ∷ []) x s) h

module _ (p columns inputs : ℕ) (rows : List RowShown) (old told : List Told) (follows : IsToldAfter old told) (own more : List RowShown) (row r : RowShown) where
  gone_grown : IsGone p rows own old row → IsGone p rows (own ++ more) told row
  gone_grown h = λ words a. spanned_more p (named rows words) own more row (h words (told_before words old told follows a))

  -- the rest is gone
  rest_gone : IsRowLeft p columns inputs rows own old row r → IsGone p rows (own ++ more) told r → IsGone p rows (own ++ more) told row
  rest_gone rest gone = λ words a.
      let N = named rows words in
      spanned_through p ((N ++ own) ++ r ∷ []) (N ++ (own ++ more)) row
      (Each_append (IsSpanned p (N ++ (own ++ more))) (N ++ own) (r ∷ []) (rows_more p N own more) (gone words a, tt))
      (rest.inside words (told_before words old told follows a))

  -- s stands for the rest
  rest_lowered :
      (s : RowShown) → IsRowLeft p columns inputs rows own old row r → IsLowered p columns inputs rows (own ++ more) told r s
      → IsRowLeft p columns inputs rows (own ++ more) told row s
  rest_lowered s rest l = record {
    good = l.good;
    lower = omega (arith, rest.lower, l.lower);
    apart = l.apart;
    combined = λ n F key from one.
        l.combined n F key from
        (rest.combined n F key (Each_front _ (rows ++ own) more (subst (AreRowsCombined p F key) (sym (append_assoc rows own more)) from)) one);
    inside = λ words a.
        let N = named rows words in
        let B = (N ++ (own ++ more)) ++ s ∷ [] in
        spanned_through p ((N ++ own) ++ r ∷ []) B row
        (Each_append (IsSpanned p B) (N ++ own) (r ∷ []) (one_behind p (N ++ (own ++ more)) (N ++ own) s (rows_more p N own more)) (l.inside words a, tt))
        (rest.inside words (told_before words old told follows a));
    outside =
        spanned_through p (A ++ r ∷ []) (A ++ row ∷ []) s
        (Each_append (IsSpanned p (A ++ row ∷ [])) A (r ∷ []) (one_behind p A A row (spanned_rows p A)) (there, tt))
        l.outside;
  }
    where
      A : List RowShown
      A = rows ++ (own ++ more)

      there : IsSpanned p (A ++ row ∷ []) r
      there =
          spanned_through p ((rows ++ own) ++ row ∷ []) (A ++ row ∷ []) r
          (Each_append (IsSpanned p (A ++ row ∷ [])) (rows ++ own) (row ∷ []) (one_behind p A (rows ++ own) row (rows_more p rows own more))
          ((λ n key. span_last key A row), tt))
          rest.outside

-- ---- a rest that is kept
module _ (p columns inputs : ℕ) (rows : List RowShown) where
  -- no own row has its column
  pub itself_lowered :
      (own : List RowShown) (told : List Told) (pivots : List ℕ) (r : RowShown)
      → ArePivots p columns inputs own pivots → IsRow p columns inputs r → get_or pivots (first_column r.entries) 0 ≡ 0
      → IsLowered p columns inputs rows own told r r
  itself_lowered own told pivots r h good free = record {
    good = good;
    lower = omega arith;
    apart = λ k lt e.
        let a : get_or pivots (lead_column own k) 0 ≡ k + 1 = h.all k lt in
        let b : get_or pivots (lead_column own k) 0 ≡ 0 = ap (λ c. get_or pivots c 0) e ∙ free in
        omega (arith, a, b);
    combined = λ n F key from one. one;
    inside = λ words a n key. span_last key (named rows words ++ own) r;
    outside = λ n key. span_last key (rows ++ own) r;
  }

  pub lowered_of_rest :
      (own : List RowShown) (told : List Told) (row r : RowShown) (pivot : Option ℕ)
      → IsRestFrom p columns inputs (least_left row.entries pivot) rows own told row r
      → IsLowered p columns inputs rows own told row r
  lowered_of_rest own told row r pivot h = record {
    good = h.good;
    lower = omega (arith, least_above row.entries pivot, h.lower);
    apart = h.apart;
    combined = h.combined;
    inside = h.inside;
    outside = h.outside;
  }

  -- it is the pivot of its first column
  pub pivots_kept :
      (left left' : List Left) (number : ℕ) (r : RowShown) (pivots pivots' : List ℕ)
      → ArePivots p columns inputs (rows_left left) pivots → IsRow p columns inputs r → get_or pivots (first_column r.entries) 0 ≡ 0
      → left' ≡ left ++ record { number = number; row = r } ∷ [] → pivots' ≡ set pivots (first_column r.entries) (length left + 1)
      → ArePivots p columns inputs (rows_left left') pivots'
  pivots_kept left left' number r pivots pivots' h good free e is =
      subst₂ (ArePivots p columns inputs) (sym (map-append (λ (x : Left). x.row) left (record { number = number; row = r } ∷ [])) ∙ ap rows_left (sym e))
      (ap (λ n. set pivots (first_column r.entries) (n + 1)) (length-map left (λ (x : Left). x.row)) ∙ sym is)
      (pivots_more p columns inputs (rows_left left) pivots r h good free (first_below p columns r.entries good.entries good.monic))

  -- what is kept of the rest takes the place of the row
  pub rest_kept :
      (first told : List Told) (start old new more : List Left) (l : Lost) (r : RowShown)
      → IsToldAfter first told → old ≡ start ++ more → IsRowLeft p columns inputs rows (rows_left start) first (shown_row_at rows l.number) r
      → IsRestKept p columns inputs rows told l.number r old new → IsReplaced p columns inputs rows told l old new
  rest_kept first told start old new more l r f e rest kept =
      let shown : rows_left old ≡ rows_left start ++ rows_left more = ap rows_left e ∙ map-append (λ (x : Left). x.row) start more in
      let row = shown_row_at rows l.number in
      elim kept [
        | inl g ↦ inl (
          g.0,
          subst (λ own. IsGone p rows own told row) (sym shown)
              (rest_gone p columns inputs rows first told f (rows_left start) (rows_left more) row r rest (subst (λ own. IsGone p rows own told r) shown g.1)),
        )
        | inr g ↦ inr (
          g.0,
          g.1,
          subst (λ own. IsRowLeft p columns inputs rows own told row g.0) (sym shown)
              (rest_lowered p columns inputs rows first told f (rows_left start) (rows_left more) row r g.0 rest
              (subst (λ own. IsLowered p columns inputs rows own told r g.0) shown g.2)),
        )
      ]

  -- nothing is left of the row
  pub gone_kept :
      (first told : List Told) (start old more : List Left) (l : Lost)
      → IsToldAfter first told → old ≡ start ++ more → IsGone p rows (rows_left start) first (shown_row_at rows l.number)
      → IsReplaced p columns inputs rows told l old old
  gone_kept first told start old more l f e gone =
      let shown : rows_left old ≡ rows_left start ++ rows_left more = ap rows_left e ∙ map-append (λ (x : Left). x.row) start more in
      inl (
        refl,
        subst (λ own. IsGone p rows own told (shown_row_at rows l.number)) (sym shown)
            (gone_grown p columns inputs rows first told f (rows_left start) (rows_left more) (shown_row_at rows l.number) (shown_row_at rows l.number) gone),
      )

  -- ---- rows replaced one after another
  replaced_later :
      (old told : List Told) (l : Lost) (a b : List Left) → IsToldAfter old told
      → IsReplaced p columns inputs rows old l a b → IsReplaced p columns inputs rows told l a b
  replaced_later old told l a b f h =
      elim h [
        | inl g ↦ inl (g.0, λ words w. g.1 words (told_before words old told f w))
        | inr g ↦ inr (
          g.0,
          g.1,
          record {
            good = g.2.good;
            lower = g.2.lower;
            apart = g.2.apart;
            combined = g.2.combined;
            inside = λ words w. g.2.inside words (told_before words old told f w);
            outside = g.2.outside;
          },
        )
      ]

  all_replaced_later :
      (old told : List Told) (lost : List Lost) (a b : List Left) → IsToldAfter old told
      → AreReplaced p columns inputs rows old lost a b → AreReplaced p columns inputs rows told lost a b
  all_replaced_later old told [] a b f h = h
  all_replaced_later old told (l ∷ lost) a b f h =
      (h.0, replaced_later old told l a h.0 f h.1, all_replaced_later old told lost h.0 b f h.2)

  replaced_push :
      (told : List Told) (lost : List Lost) (l : Lost) (a b c : List Left)
      → AreReplaced p columns inputs rows told lost a b → IsReplaced p columns inputs rows told l b c
      → AreReplaced p columns inputs rows told (lost ++ l ∷ []) a c
  replaced_push told [] l a b c h one = (c, subst (λ x. IsReplaced p columns inputs rows told l x c) h one, refl)
  replaced_push told (m ∷ lost) l a b c h one = (h.0, h.1, replaced_push told lost l h.0 b c h.2 one)

  -- the next one
  pub replaced_next :
      (old told : List Told) (lost : List Lost) (i : ℕ) (d : Lost) (a b c : List Left) → i < length lost → IsToldAfter old told
      → AreReplaced p columns inputs rows old (take i lost) a b → IsReplaced p columns inputs rows told (get_or lost i d) b c
      → AreReplaced p columns inputs rows told (take (i + 1) lost) a c
  replaced_next old told lost i d a b c lt f h one =
      subst (λ xs. AreReplaced p columns inputs rows told xs a c) (sym (item_taken lost i d lt))
      (replaced_push told (take i lost) (get_or lost i d) a b c (all_replaced_later old told (take i lost) a b f h) one)

  -- the own rows before it stay
  pub grown_next :
      (told : List Told) (l : Lost) (start old new : List Left) → (more : List Left) × (old ≡ start ++ more)
      → IsReplaced p columns inputs rows told l old new → (more : List Left) × (new ≡ start ++ more)
  grown_next told l start old new h one =
      elim one [
        | inl g ↦ (h.0, g.0 ∙ h.1)
        | inr g ↦ (
          h.0 ++ record { number = l.number; row = g.0 } ∷ [],
          g.1 ∙ ap (λ xs. xs ++ record { number = l.number; row = g.0 } ∷ []) h.1 ∙ append_assoc start h.0 (record { number = l.number; row = g.0 } ∷ []),
        )
      ]

  -- ---- the rests of rows, one after another
  pub rest_next :
      (own : List RowShown) (told : List Told) (lost : List Lost) (i : ℕ) (d : Lost) (r : Option RowShown) (rests rests' : List (Option RowShown))
      → i < length lost → rests ≡ r ∷ rests' → AreRests p columns inputs rows own told (drop i lost) rests
      → IsRowRestOrGone p columns inputs rows own told (shown_row_at rows (get_or lost i d).number) r × AreRests p columns inputs rows own told (drop (i + 1) lost) rests'
  rest_next own told lost i d r rests rests' lt e h =
      subst₂ (λ ls rs. AreRests p columns inputs rows own told ls rs) (drop_more lost i d lt) e h

  -- as many as there are rows
  pub rest_missing :
      (own : List RowShown) (told : List Told) (lost : List Lost) (i : ℕ) (d : Lost) (rests rests' : List (Option RowShown))
      → i < length lost → rests ≡ rests' → rests' ≡ drop 1 rests → AreRests p columns inputs rows own told (drop i lost) rests → ⊥
  rest_missing own told lost i d rests rests' lt e e' h =
      subst₂ (λ ls rs. AreRests p columns inputs rows own told ls rs) (drop_more lost i d lt) (none_popped rests rests' e e') h

  -- the loop's step: what is kept of the rest takes the row's place
  pub keep_next :
      (first old told : List Told) (lost : List Lost) (i : ℕ) (d : Lost) (start own new : List Left) (r : RowShown) (rests rests' : List (Option RowShown))
      → i < length lost → IsToldAfter first told → IsToldAfter old told → rests ≡ Some r ∷ rests'
      → AreRests p columns inputs rows (rows_left start) first (drop i lost) rests
      → (more : List Left) × (own ≡ start ++ more) → AreReplaced p columns inputs rows old (take i lost) start own
      → IsRestKept p columns inputs rows told (get_or lost i d).number r own new
      → ((more : List Left) × (new ≡ start ++ more)) × AreRests p columns inputs rows (rows_left start) first (drop (i + 1) lost) rests'
      × AreReplaced p columns inputs rows told (take (i + 1) lost) start new
  keep_next first old told lost i d start own new r rests rests' lt f g e h grown done kept =
      let l = get_or lost i d in
      let rest = rest_next (rows_left start) first lost i d (Some r) rests rests' lt e h in
      let one : IsReplaced p columns inputs rows told l own new = rest_kept first told start own new grown.0 l r f grown.1 rest.0 kept in
      (grown_next told l start own new grown one, rest.1, replaced_next old told lost i d start own new lt g done one)

  -- nothing is left of the row
  pub skip_next :
      (first told : List Told) (lost : List Lost) (i : ℕ) (d : Lost) (start own : List Left) (rests rests' : List (Option RowShown))
      → i < length lost → IsToldAfter first told → rests ≡ None ∷ rests'
      → AreRests p columns inputs rows (rows_left start) first (drop i lost) rests
      → (more : List Left) × (own ≡ start ++ more) → AreReplaced p columns inputs rows told (take i lost) start own
      → AreRests p columns inputs rows (rows_left start) first (drop (i + 1) lost) rests'
      × AreReplaced p columns inputs rows told (take (i + 1) lost) start own
  skip_next first told lost i d start own rests rests' lt f e h grown done =
      let l = get_or lost i d in
      let rest = rest_next (rows_left start) first lost i d None rests rests' lt e h in
      (rest.1, replaced_next told told lost i d start own own lt (follows_same told) done (gone_kept first told start own grown.0 l f grown.1 rest.0))

  -- ---- the next eight
  helped_through :
      (mine : List ℕ) (old told : List Told) (lost : List Lost) (left left' : List Left)
      → AreHelped p columns inputs rows mine old left → IsToldAfter old told → Each (IsLost rows old) lost
      → AreReplaced p columns inputs rows told lost left left'
      → AreHelped p columns inputs rows (mine ++ numbers lost) told left'
  helped_through mine old told [] left left' h f all done =
      subst₂ (λ ms ls. AreHelped p columns inputs rows ms told ls) (sym (append-nil mine)) (sym done) (helped_later p columns inputs rows mine old told left f h)
  helped_through mine old told (l ∷ lost) left left' h f all done =
      subst (λ ms. AreHelped p columns inputs rows ms told left') (append_assoc mine (l.number ∷ []) (numbers lost))
      (helped_through (mine ++ l.number ∷ []) told told lost done.0 left'
      (helped_more p columns inputs rows mine old told left done.0 l h f all.0 done.1) (follows_same told) (all_lost_stay rows old told lost f all.1) done.2)

  pub helped_eight :
      (lost : List Lost) (first old told : List Told) (left left' : List Left) (from to : ℕ)
      → from ≤ to → Each (IsLost rows first) lost → IsToldAfter first old → IsToldAfter old told
      → AreHelped p columns inputs rows (numbers (take from lost)) old left
      → AreReplaced p columns inputs rows told (slice_range lost from to) left left'
      → AreHelped p columns inputs rows (numbers (take to lost)) told left'
  helped_eight lost first old told left left' from to le all f g h done =
      subst (λ ms. AreHelped p columns inputs rows ms told left') is
      (helped_through (numbers (take from lost)) old told (slice_range lost from to) left left' h g
      (all_lost_stay rows first old (slice_range lost from to) f some) done)
    where
      is : numbers (take from lost) ++ numbers (slice_range lost from to) ≡ numbers (take to lost)
      is = sym (map-append (λ (l : Lost). l.number) (take from lost) (slice_range lost from to)) ∙ ap numbers (taken_range lost from to le)

      some : Each (IsLost rows first) (slice_range lost from to)
      some = Each_range (IsLost rows first) lost from to all
