-- The rows that words name, and what was told of them
use Rattle.std.proofs.Common.{All, List, None, Option, Some, [], ap, arith, length, refl, subst, suc, sym, zero, ℕ, ◌+◌, ◌++◌, ◌<◌, ◌∙◌, ◌∷◌, ◌≡◌}
use Rattle.std.proofs.lemmas.List.{append-nil, append_assoc, get_or-map, get_or_append_left, get_or_default, get_or_push, length-map, length-append}
use Rattle.std.proofs.lemmas.List.Elements.{All-from_get_or, All-get_or}
use Rattle.std.proofs.lemmas.Option.{none-some, same_Some}
use Rattle.formal_sums.specs.FormalSums.{Each, FormalSum, Key}
use Rattle.term_lists.proofs.Scaling.{Each_at}
use Rattle.pivot_table.specs.declared.law.Entry.{Entry as Told}
use Rattle.row_laws.proofs.RowSpans.{IsInSpan_itself, IsInSpan_through}
use Rattle.row_laws.specs.Rows.{IsInSpan}
use Rattle.row_matrix.specs.Rows.{RowShown, no_row, row_sum, shown_row_at}
use Rattle.dense_reduction.specs.Pivots.{row_vectors}
use Rattle.dense_reduction.specs.Words.{AreAsTold, IsToldAfter, IsTold, WordNames, named}

-- ---- rows in the span of rows
-- each row itself
pub span_at :
    {n p : ℕ} (key : ℕ → Key n) (rows : List RowShown) (i : ℕ) → i < length rows
    → IsInSpan p (row_vectors key rows) (row_sum key (shown_row_at rows i).entries)
span_at {n} {p} key rows i lt =
    subst (IsInSpan p (row_vectors key rows)) (get_or-map (λ (r : RowShown). row_sum key r.entries) rows i no_row [] lt)
    (IsInSpan_itself p (row_vectors key rows) i)

-- rows of the span span nothing more
pub span_through :
    {n p : ℕ} (key : ℕ → Key n) (rows others : List RowShown) (v : FormalSum n)
    → ((i : ℕ) → i < length others → IsInSpan p (row_vectors key rows) (row_sum key (shown_row_at others i).entries))
    → IsInSpan p (row_vectors key others) v → IsInSpan p (row_vectors key rows) v
span_through {n} {p} key rows others v h s =
    IsInSpan_through (row_vectors key rows) (row_vectors key others)
    (λ i lt.
    let l : i < length others = omega (arith, lt, length-map others (λ (r : RowShown). row_sum key r.entries)) in
    subst (IsInSpan p (row_vectors key rows)) (sym (get_or-map (λ (r : RowShown). row_sum key r.entries) others i no_row [] l)) (h i l))
    v s

-- with more rows behind them
pub span_left :
    {n p : ℕ} (key : ℕ → Key n) (rows more : List RowShown) (v : FormalSum n)
    → IsInSpan p (row_vectors key rows) v → IsInSpan p (row_vectors key (rows ++ more)) v
span_left {n} {p} key rows more v s =
    span_through key (rows ++ more) rows v
    (λ i lt. subst (λ (r : RowShown). IsInSpan p (row_vectors key (rows ++ more)) (row_sum key r.entries)) (get_or_append_left rows more no_row i lt)
    (span_at key (rows ++ more) i (omega (arith, length-append rows more, lt))))
    s

-- with more rows before them
pub span_right :
    {n p : ℕ} (key : ℕ → Key n) (before rows : List RowShown) (v : FormalSum n)
    → IsInSpan p (row_vectors key rows) v → IsInSpan p (row_vectors key (before ++ rows)) v
span_right key [] rows v s = s
span_right {n} {p} key (b ∷ before) rows v s =
    span_through key (b ∷ (before ++ rows)) (before ++ rows) v
    (λ i lt. span_at key (b ∷ (before ++ rows)) (suc i) (omega (arith, lt))) (span_right key before rows v s)

-- ---- named rows
-- a row that a word names is one of them
pub named_at :
    (rows : List RowShown) (words : List (Option ℕ)) (c k : ℕ) → WordNames words c k
    → (i : ℕ) × (i < length (named rows words)) × (shown_row_at (named rows words) i ≡ shown_row_at rows k)
named_at rows [] c k h = absurd (none-some (Some k) h)
named_at rows (None ∷ words) zero k h = absurd (none-some k (same_Some None (Some k) h))
named_at rows (None ∷ words) (suc c) k h = named_at rows words c k h
named_at rows (Some j ∷ words) zero k h = (0, omega arith, ap (shown_row_at rows) (same_Some j k (same_Some (Some j) (Some k) h)))
named_at rows (Some j ∷ words) (suc c) k h =
    let r = named_at rows words c k h in
    (suc r.0, omega (arith, r.1), r.2)

-- each of them is a row that a word names
pub named_of :
    (rows : List RowShown) (words : List (Option ℕ)) (i : ℕ) → i < length (named rows words)
    → (c : ℕ) × (k : ℕ) × WordNames words c k × (shown_row_at (named rows words) i ≡ shown_row_at rows k)
named_of rows [] i lt = absurd (omega arith)
named_of rows (None ∷ words) i lt =
    let r = named_of rows words i lt in
    (suc r.0, r.1, r.2, r.3)
named_of rows (Some j ∷ words) zero lt = (0, j, refl, refl)
named_of rows (Some j ∷ words) (suc i) lt =
    let r = named_of rows words i (omega (arith, lt)) in
    (suc r.0, r.1, r.2, r.3)

-- what holds of all rows holds of them
pub Each_named :
    (P : RowShown → Type 0) (rows : List RowShown) (words : List (Option ℕ)) → Each P rows
    → ((c k : ℕ) → WordNames words c k → k < length rows) → Each P (named rows words)
Each_named P rows [] h known = tt
Each_named P rows (None ∷ words) h known = Each_named P rows words h (λ c k e. known (suc c) k e)
Each_named P rows (Some j ∷ words) h known =
    let lt = known 0 j refl in
    (Each_at P rows j (shown_row_at rows j) h lt (get_or_default rows j no_row (shown_row_at rows j) lt), Each_named P rows words h (λ c k e. known (suc c) k e))

-- a row that a word names is in their span
pub named_span :
    {n p : ℕ} (key : ℕ → Key n) (rows : List RowShown) (words : List (Option ℕ)) (c k : ℕ) → WordNames words c k
    → IsInSpan p (row_vectors key (named rows words)) (row_sum key (shown_row_at rows k).entries)
named_span {n} {p} key rows words c k h =
    let r = named_at rows words c k h in
    subst (λ (x : RowShown). IsInSpan p (row_vectors key (named rows words)) (row_sum key x.entries)) r.2 (span_at key (named rows words) r.0 r.1)

-- ---- what was told
-- words that are as was told later are as was told before
pub told_before :
    (words : List (Option ℕ)) (old new : List Told) → IsToldAfter old new → AreAsTold words new → AreAsTold words old
told_before words old new f h =
    All-from_get_or P old none (λ i lt. subst P (get_or_append_left old f.0 none i lt)
    (All-get_or P (old ++ f.0) i none (omega (arith, length-append old f.0, lt)) (subst (All P) f.1 h)))
  where
    P : Told → Type 0
    P e = (k : ℕ) → e.after ≡ k + 1 → WordNames words e.column k

    none : Told
    none = record { column = 0; before = 0; after = 0 }

-- the last that was told, of a column that has a row
pub told_last :
    (words : List (Option ℕ)) (old : List Told) (e : Told) (k : ℕ) → e.after ≡ k + 1
    → AreAsTold words (old ++ e ∷ []) → WordNames words e.column k
told_last words old e k is h =
    subst P (get_or_push old e e (length old) refl)
    (All-get_or P (old ++ e ∷ []) (length old) e (omega (arith, length-append old (e ∷ []))) h) k is
  where
    P : Told → Type 0
    P x = (j : ℕ) → x.after ≡ j + 1 → WordNames words x.column j

pub follows_same : (old : List Told) → IsToldAfter old old
follows_same old = ([], sym (append-nil old))

pub follows_one : (old new : List Told) (e : Told) → new ≡ old ++ e ∷ [] → IsToldAfter old new
follows_one old new e is = (e ∷ [], is)

pub follows_trans : (a b c : List Told) → IsToldAfter a b → IsToldAfter b c → IsToldAfter a c
follows_trans a b c f g = (f.0 ++ g.0, g.1 ∙ ap (λ x. x ++ g.0) f.1 ∙ append_assoc a f.0 g.0)

-- what was told stays told
pub told_stays : (rows : List RowShown) (old new : List Told) (column k : ℕ) → IsToldAfter old new → IsTold rows old column k → IsTold rows new column k
told_stays rows old new column k f h = record {
  known = h.known;
  lead = h.lead;
  named = λ words a. h.named words (told_before words old new f a);
}
