-- Rows that helpers claim, and what they leave of those that lost their columns
use Rattle.std.proofs.Common.{List, Option, [], ap, append-nil, append_assoc, arith, get_or, inl, inr, length, set, slice_index, subst, sym, refl, replicate, subst₂, take, ℕ, ◌+◌, ◌++◌, ◌-◌, ◌<◌, ◌∙◌, ◌∷◌, ◌≡◌, ◌≤◌}
use Rattle.std.proofs.lemmas.Bool.{cases_lt}
use Rattle.std.proofs.lemmas.List.{length-map, map-append, take_all}
use Rattle.std.proofs.lemmas.List.Elements.{All-tail}
use Rattle.std.proofs.lemmas.List.Sorted.{IsPermutation-append, IsPermutation-append_comm, IsPermutation-append_left, IsPermutation-append_right, IsPermutation-push_more, IsPermutation-refl, IsPermutation-sym, IsPermutation-trans}
use Rattle.std.specs.List.Sorted.{IsPermutation}
use Rattle.formal_sums.proofs.Combining.{Each_map}
use Rattle.formal_sums.proofs.WeightedSums.{Each_append}
use Rattle.formal_sums.specs.FormalSums.{Each}
use Rattle.term_lists.proofs.Gathers.{Each_permutation}
use Rattle.term_lists.proofs.Parts.{Each_member}
use Rattle.pivot_table.specs.Law.{LeadsFit, Tallies}
use Rattle.pivot_table.specs.declared.law.Entry.{Entry as Told}
use Rattle.row_matrix.specs.Rows.{IsRow, RowShown, first_column, no_row, row_sum, shown_row_at}
use Rattle.dense_reduction.proofs.Adding.{Each_back, Each_front}
use Rattle.dense_reduction.proofs.Claimed.{HasWon, item_taken, lead_read, lost_at, lost_stays, none_taken, put_between}
use Rattle.dense_reduction.proofs.Entries.{first_below}
use Rattle.dense_reduction.proofs.Naming.{named_span, span_at, span_left, span_right, span_through, told_before}
use Rattle.dense_reduction.specs.LostRows.{AreClaimed, IsLost, numbers}
use Rattle.dense_reduction.specs.Pivots.{ArePivots, lead_column}
use Rattle.dense_reduction.specs.Rests.{IsGone, IsRowLeft, IsRestFrom, rows_left}
use Rattle.dense_reduction.specs.Underway.{AreRowsCombined, IsSpanned}
use Rattle.dense_reduction.specs.Words.{AreAsTold, IsToldAfter, WordNames, row_leads_of, named}
use Rattle.dense_reduction.specs.declared.lefts.Left.{Left}
use Rattle.dense_reduction.specs.declared.lefts.Lost.{Lost}
use Rattle.row_reduce.proofs.Echelons.{pivots_more, pivots_none}
use Rattle.row_reduce.specs.Passes.{AreHelped, IsLeftOf, IsPass, places}
use Rattle.row_reduce.specs.Replaced.{IsReplaced}

-- its column has a row
abbrev HasColumn : List RowShown → List (Option ℕ) → ℕ → Type 0
HasColumn rows words m = (k : ℕ) × WordNames words (lead_column rows m) k

-- rows that words name and rows left span it
abbrev IsInside : ℕ → List RowShown → List (Option ℕ) → List RowShown → ℕ → Type 0
IsInside p rows words own m = IsSpanned p (named rows words ++ own) (shown_row_at rows m)

-- ---- rows in the span of rows
-- what rows of the span span
pub spanned_through : (p : ℕ) (A B : List RowShown) (r : RowShown) → Each (IsSpanned p B) A → IsSpanned p A r → IsSpanned p B r
spanned_through p A B r h s n key = span_through key B A (row_sum key r.entries) (λ i lt. Each_member (IsSpanned p B) A i no_row h lt n key) (s n key)

pub spanned_left : (p : ℕ) (A B : List RowShown) (r : RowShown) → IsSpanned p A r → IsSpanned p (A ++ B) r
spanned_left p A B r s n key = span_left key A B (row_sum key r.entries) (s n key)

spanned_right : (p : ℕ) (A B : List RowShown) (r : RowShown) → IsSpanned p B r → IsSpanned p (A ++ B) r
spanned_right p A B r s n key = span_right key A B (row_sum key r.entries) (s n key)

pub spanned_rows : (p : ℕ) (A : List RowShown) → Each (IsSpanned p A) A
spanned_rows p [] = tt
spanned_rows p (a ∷ A) = (
  (λ n key. span_at key (a ∷ A) 0 (omega arith)),
  Each_map (IsSpanned p A) (IsSpanned p (a ∷ A)) A (λ r s. spanned_right p (a ∷ []) A r s) (spanned_rows p A),
)

-- with more rows left
pub spanned_more : (p : ℕ) (A B C : List RowShown) (r : RowShown) → IsSpanned p (A ++ B) r → IsSpanned p (A ++ (B ++ C)) r
spanned_more p A B C r s = subst (λ X. IsSpanned p X r) (append_assoc A B C) (spanned_left p (A ++ B) C r s)

spanned_before : (p : ℕ) (A B C : List RowShown) (r : RowShown) → IsSpanned p (A ++ C) r → IsSpanned p (A ++ (B ++ C)) r
spanned_before p A B C r s =
    spanned_through p (A ++ C) (A ++ (B ++ C)) r
    (Each_append (IsSpanned p (A ++ (B ++ C))) A C
    (Each_map (IsSpanned p A) (IsSpanned p (A ++ (B ++ C))) A (λ x t. spanned_left p A (B ++ C) x t) (spanned_rows p A))
    (Each_map (IsSpanned p C) (IsSpanned p (A ++ (B ++ C))) C (λ x t. spanned_right p A (B ++ C) x (spanned_right p B C x t)) (spanned_rows p C)))
    s

inside_more :
    (p : ℕ) (rows : List RowShown) (words : List (Option ℕ)) (own more : List RowShown) (mine : List ℕ)
    → Each (IsInside p rows words own) mine → Each (IsInside p rows words (own ++ more)) mine
inside_more p rows words own more mine h =
    Each_map (IsInside p rows words own) (IsInside p rows words (own ++ more)) mine
    (λ m s. spanned_more p (named rows words) own more (shown_row_at rows m) s) h

inside_before :
    (p : ℕ) (rows : List RowShown) (words : List (Option ℕ)) (before own : List RowShown) (mine : List ℕ)
    → Each (IsInside p rows words own) mine → Each (IsInside p rows words (before ++ own)) mine
inside_before p rows words before own mine h =
    Each_map (IsInside p rows words own) (IsInside p rows words (before ++ own)) mine
    (λ m s. spanned_before p (named rows words) before own (shown_row_at rows m) s) h

pub told_after : (words : List (Option ℕ)) (told more : List Told) → AreAsTold words (told ++ more) → AreAsTold words more
told_after words [] more a = a
told_after words (e ∷ told) more a =
    told_after words told more (All-tail (λ (x : Told). (k : ℕ) → x.after ≡ k + 1 → WordNames words x.column k) e (told ++ more) a)

-- ---- dealt rows
-- none yet
pub dealt_none : (mine others last : List ℕ) → others ≡ [] → last ≡ [] → IsPermutation (take 0 mine) (others ++ last)
dealt_none mine others last a b = subst₂ (λ xs ys. IsPermutation (take 0 mine) (xs ++ ys)) (sym a) (sym b) (none_taken mine)

-- all of them
pub dealt_whole : (mine parts : List ℕ) (i : ℕ) → length mine ≤ i → IsPermutation (take i mine) parts → IsPermutation mine parts
dealt_whole mine parts i le h = subst (λ xs. IsPermutation xs parts) (take_all i mine le) h

-- one more of the last helper
pub dealt_last :
    (mine others last last' : List ℕ) (i d : ℕ)
    → i < length mine → IsPermutation (take i mine) (others ++ last) → last' ≡ last ++ get_or mine i d ∷ []
    → IsPermutation (take (i + 1) mine) (others ++ last')
dealt_last mine others last last' i d lt h e =
    let m = get_or mine i d in
    subst₂ IsPermutation (sym (item_taken mine i d lt)) (append_assoc others last (m ∷ []) ∙ ap (λ xs. others ++ xs) (sym e))
    (IsPermutation-append_left (m ∷ []) (take i mine) (others ++ last) h)

-- one more of those before it
pub dealt_other :
    (mine others others' last : List ℕ) (i d : ℕ)
    → i < length mine → IsPermutation (take i mine) (others ++ last) → others' ≡ others ++ get_or mine i d ∷ []
    → IsPermutation (take (i + 1) mine) (others' ++ last)
dealt_other mine others others' last i d lt h e =
    let m = get_or mine i d in
    subst₂ IsPermutation (sym (item_taken mine i d lt)) (ap (λ xs. xs ++ last) (sym e))
    (IsPermutation-push_more (take i mine) (others ++ last) ((others ++ m ∷ []) ++ last) m h (put_between others last m))

-- the parts as slices
pub dealt_read :
    {mine others others' last last' : List ℕ} → others' ≡ others → last' ≡ last → IsPermutation mine (others ++ last)
    → IsPermutation mine (others' ++ last')
dealt_read {mine} a b h = subst₂ (λ xs ys. IsPermutation mine (xs ++ ys)) (sym a) (sym b) h

-- what holds of all holds of both parts
pub dealt_below :
    (bound : ℕ) (mine others last : List ℕ) → IsPermutation mine (others ++ last) → Each (λ m. m < bound) mine
    → Each {X = ℕ} (λ m. m < bound) others × Each {X = ℕ} (λ m. m < bound) last
dealt_below bound mine others last same h =
    let all = Each_permutation (λ m. m < bound) mine (others ++ last) same h in
    (Each_front (λ m. m < bound) others last all, Each_back (λ m. m < bound) others last all)

-- ---- helped rows
-- an exchange of the second and the third part
pub exchanged : (a b c d : List ℕ) → IsPermutation ((a ++ b) ++ (c ++ d)) ((a ++ c) ++ (b ++ d))
exchanged a b c d =
    subst₂ IsPermutation (inner a b c d) (inner a c b d)
    (IsPermutation-append_right a ((b ++ c) ++ d) ((c ++ b) ++ d) (IsPermutation-append_left d (b ++ c) (c ++ b) (IsPermutation-append_comm b c)))
  where
    inner : (a b c d : List ℕ) → a ++ ((b ++ c) ++ d) ≡ (a ++ b) ++ (c ++ d)
    inner a b c d = ap (λ xs. a ++ xs) (append_assoc b c d) ∙ sym (append_assoc a b (c ++ d))

module _ (p columns inputs : ℕ) (rows : List RowShown) where
  -- rows that have their columns
  helped_won :
      (won : List ℕ) (told : List Told) → Each (HasWon rows told) won → AreHelped p columns inputs rows won told []
  helped_won won told h = record {
    good = tt;
    gone = won;
    split = IsPermutation-refl won;
    replaced = λ words a. tt;
    claimed = λ words a. Each_map (HasWon rows told) (HasColumn rows words) won (λ m t. (m, t.named words a)) h;
    inside = λ words a.
        Each_map (HasWon rows told) (IsInside p rows words []) won
        (λ m t. spanned_left p (named rows words) [] (shown_row_at rows m) (λ n key. named_span key rows words (lead_column rows m) m (t.named words a))) h;
    outside = tt;
    combined = λ n F key from. tt;
  }

  -- more is told
  pub helped_known :
      (mine : List ℕ) (old new : List Told) (left : List Left) → ((words : List (Option ℕ)) → AreAsTold words new → AreAsTold words old)
      → AreHelped p columns inputs rows mine old left → AreHelped p columns inputs rows mine new left
  helped_known mine old new left before h = record {
    good = h.good;
    gone = h.gone;
    split = h.split;
    replaced = λ words a. h.replaced words (before words a);
    claimed = λ words a. h.claimed words (before words a);
    inside = λ words a. h.inside words (before words a);
    outside = h.outside;
    combined = h.combined;
  }

  pub helped_later :
      (mine : List ℕ) (old new : List Told) (left : List Left) → IsToldAfter old new
      → AreHelped p columns inputs rows mine old left → AreHelped p columns inputs rows mine new left
  helped_later mine old new left f h = helped_known mine old new left (λ words a. told_before words old new f a) h

  -- in another order
  pub helped_permuted :
      (mine more : List ℕ) (told : List Told) (left : List Left) → IsPermutation mine more
      → AreHelped p columns inputs rows more told left → AreHelped p columns inputs rows mine told left
  helped_permuted mine more told left same h = record {
    good = h.good;
    gone = h.gone;
    split = IsPermutation-trans mine more (places left ++ h.gone) same h.split;
    replaced = h.replaced;
    claimed = λ words a. Each_permutation (HasColumn rows words) more mine (IsPermutation-sym mine more same) (h.claimed words a);
    inside = λ words a. Each_permutation (IsInside p rows words (rows_left left)) more mine (IsPermutation-sym mine more same) (h.inside words a);
    outside = h.outside;
    combined = h.combined;
  }

  -- two parts
  helped_beside :
      (mine more : List ℕ) (told : List Told) (left rest : List Left)
      → AreHelped p columns inputs rows mine told left → AreHelped p columns inputs rows more told rest
      → AreHelped p columns inputs rows (mine ++ more) told (left ++ rest)
  helped_beside mine more told left rest a b = record {
    good = subst (Each (IsRow p columns inputs)) (sym shown) (Each_append (IsRow p columns inputs) (rows_left left) (rows_left rest) a.good b.good);
    gone = a.gone ++ b.gone;
    split =
        subst (λ xs. IsPermutation (mine ++ more) (xs ++ (a.gone ++ b.gone))) (sym (map-append (λ (l : Left). l.number) left rest))
        (IsPermutation-trans (mine ++ more) ((places left ++ a.gone) ++ (places rest ++ b.gone)) ((places left ++ places rest) ++ (a.gone ++ b.gone))
        (IsPermutation-append mine (places left ++ a.gone) more (places rest ++ b.gone) a.split b.split)
        (exchanged (places left) a.gone (places rest) b.gone));
    replaced = λ words t. Each_append (IsLeftOf rows words) left rest (a.replaced words t) (b.replaced words t);
    claimed = λ words t. Each_append (HasColumn rows words) mine more (a.claimed words t) (b.claimed words t);
    inside = λ words t.
        subst (λ X. Each (IsInside p rows words X) (mine ++ more)) (sym shown)
        (Each_append (IsInside p rows words (rows_left left ++ rows_left rest)) mine more
        (inside_more p rows words (rows_left left) (rows_left rest) mine (a.inside words t))
        (inside_before p rows words (rows_left left) (rows_left rest) more (b.inside words t)));
    outside = subst (Each (IsSpanned p rows)) (sym shown) (Each_append (IsSpanned p rows) (rows_left left) (rows_left rest) a.outside b.outside);
    combined = λ n F key from.
        subst (AreRowsCombined p F key) (sym shown)
        (Each_append _ (rows_left left) (rows_left rest) (a.combined n F key from) (b.combined n F key from));
  }
    where
      shown : rows_left (left ++ rest) ≡ rows_left left ++ rows_left rest
      shown = map-append (λ (l : Left). l.row) left rest

  -- those of two helpers
  pub helped_both :
      (mine more : List ℕ) (told known : List Told) (left rest : List Left)
      → AreHelped p columns inputs rows mine told left → AreHelped p columns inputs rows more known rest
      → AreHelped p columns inputs rows (mine ++ more) (told ++ known) (left ++ rest)
  helped_both mine more told known left rest a b =
      helped_beside mine more (told ++ known) left rest
      (helped_known mine told (told ++ known) left (λ words t. told_before words told (told ++ known) (known, refl) t) a)
      (helped_known more known (told ++ known) rest (λ words t. told_after words told known t) b)

  -- one more row, of which nothing is left
  helped_gone :
      (mine : List ℕ) (told : List Told) (left : List Left) (l : Lost)
      → AreHelped p columns inputs rows mine told left → IsLost rows told l → IsGone p rows (rows_left left) told (shown_row_at rows l.number)
      → AreHelped p columns inputs rows (mine ++ l.number ∷ []) told left
  helped_gone mine told left l h lost gone = record {
    good = h.good;
    gone = h.gone ++ l.number ∷ [];
    split =
        subst (IsPermutation (mine ++ l.number ∷ [])) (append_assoc (places left) h.gone (l.number ∷ []))
        (IsPermutation-append_left (l.number ∷ []) mine (places left ++ h.gone) h.split);
    replaced = h.replaced;
    claimed = λ words a. Each_append (HasColumn rows words) mine (l.number ∷ []) (h.claimed words a) ((l.winner, lost.held.named words a), tt);
    inside = λ words a. Each_append (IsInside p rows words (rows_left left)) mine (l.number ∷ []) (h.inside words a) (gone words a, tt);
    outside = h.outside;
    combined = h.combined;
  }

  -- one more row, and what is left in its place
  helped_rest :
      (mine : List ℕ) (told : List Told) (left : List Left) (l : Lost) (r : RowShown)
      → AreHelped p columns inputs rows mine told left → IsLost rows told l → IsRowLeft p columns inputs rows (rows_left left) told (shown_row_at rows l.number) r
      → AreHelped p columns inputs rows (mine ++ l.number ∷ []) told (left ++ record { number = l.number; row = r } ∷ [])
  helped_rest mine told left l r h lost rest = record {
    good = subst (Each (IsRow p columns inputs)) (sym shown) (Each_append (IsRow p columns inputs) (rows_left left) (r ∷ []) h.good (rest.good, tt));
    gone = h.gone;
    split =
        subst (λ xs. IsPermutation (mine ++ l.number ∷ []) (xs ++ h.gone)) (sym (map-append (λ (x : Left). x.number) left (new ∷ [])))
        (IsPermutation-trans (mine ++ l.number ∷ []) ((places left ++ h.gone) ++ l.number ∷ []) ((places left ++ l.number ∷ []) ++ h.gone)
        (IsPermutation-append_left (l.number ∷ []) mine (places left ++ h.gone) h.split) swapped);
    replaced = λ words a.
        Each_append (IsLeftOf rows words) left (new ∷ []) (h.replaced words a)
        (record { winner = l.winner; other = lost.other; lost = lost.held.named words a; lower = omega (arith, rest.lower) }, tt);
    claimed = λ words a. Each_append (HasColumn rows words) mine (l.number ∷ []) (h.claimed words a) ((l.winner, lost.held.named words a), tt);
    inside = λ words a.
        subst (λ X. Each (IsInside p rows words X) (mine ++ l.number ∷ [])) (sym shown)
        (Each_append (IsInside p rows words (rows_left left ++ r ∷ [])) mine (l.number ∷ [])
        (inside_more p rows words (rows_left left) (r ∷ []) mine (h.inside words a))
        (subst (λ X. IsSpanned p X (shown_row_at rows l.number)) (append_assoc (named rows words) (rows_left left) (r ∷ [])) (rest.inside words a), tt));
    outside = subst (Each (IsSpanned p rows)) (sym shown) (Each_append (IsSpanned p rows) (rows_left left) (r ∷ []) h.outside (spanned, tt));
    combined = λ n F key from.
        let own = h.combined n F key from in
        subst (AreRowsCombined p F key) (sym shown)
        (Each_append _ (rows_left left) (r ∷ []) own
        (rest.combined n F key (Each_append _ rows (rows_left left) from own) (Each_member _ rows l.number no_row from lost.known, tt)));
  }
    where
      new : Left
      new = record { number = l.number; row = r }

      shown : rows_left (left ++ record { number = l.number; row = r } ∷ []) ≡ rows_left left ++ r ∷ []
      shown = map-append (λ (x : Left). x.row) left (record { number = l.number; row = r } ∷ [])

      swapped : IsPermutation ((places left ++ h.gone) ++ l.number ∷ []) ((places left ++ l.number ∷ []) ++ h.gone)
      swapped =
          subst₂ IsPermutation (sym (append_assoc (places left) h.gone (l.number ∷ []))) (sym (append_assoc (places left) (l.number ∷ []) h.gone))
          (IsPermutation-append_right (places left) (h.gone ++ l.number ∷ []) (l.number ∷ [] ++ h.gone) (IsPermutation-append_comm h.gone (l.number ∷ [])))

      spanned : IsSpanned p rows r
      spanned =
          spanned_through p ((rows ++ rows_left left) ++ shown_row_at rows l.number ∷ []) rows r
          (Each_append (IsSpanned p rows) (rows ++ rows_left left) (shown_row_at rows l.number ∷ [])
          (Each_append (IsSpanned p rows) rows (rows_left left) (spanned_rows p rows) h.outside)
          (Each_member (IsSpanned p rows) rows l.number no_row (spanned_rows p rows) lost.known, tt))
          rest.outside

  -- one more row that was replaced
  pub helped_more :
      (mine : List ℕ) (old told : List Told) (left left' : List Left) (l : Lost)
      → AreHelped p columns inputs rows mine old left → IsToldAfter old told → IsLost rows old l → IsReplaced p columns inputs rows told l left left'
      → AreHelped p columns inputs rows (mine ++ l.number ∷ []) told left'
  helped_more mine old told left left' l h f lost done =
      let later = helped_later mine old told left f h in
      let lost' = lost_stays rows old told l f lost in
      elim done [
        | inl g ↦ subst (AreHelped p columns inputs rows (mine ++ l.number ∷ []) told) (sym g.0) (helped_gone mine told left l later lost' g.1)
        | inr g ↦ subst (AreHelped p columns inputs rows (mine ++ l.number ∷ []) told) (sym g.1) (helped_rest mine told left l g.0 later lost' g.2)
      ]

  -- the next of those that lost their columns
  pub helped_next :
      (lost : List Lost) (first old told : List Told) (left left' : List Left) (i : ℕ) (d : Lost)
      → i < length lost → Each (IsLost rows first) lost → IsToldAfter first old → IsToldAfter old told
      → AreHelped p columns inputs rows (numbers (take i lost)) old left → IsReplaced p columns inputs rows told (get_or lost i d) left left'
      → AreHelped p columns inputs rows (numbers (take (i + 1) lost)) told left'
  helped_next lost first old told left left' i d lt all f g h done =
      subst (λ ms. AreHelped p columns inputs rows ms told left')
      (sym (ap numbers (item_taken lost i d lt) ∙ map-append (λ (l : Lost). l.number) (take i lost) (get_or lost i d ∷ [])))
      (helped_more (numbers (take i lost)) old told left left' (get_or lost i d) h g (lost_at rows first old lost i d f all lt) done)

  -- none yet
  pub helped_none : (told : List Told) (left : List Left) → left ≡ [] → AreHelped p columns inputs rows [] told left
  helped_none told left e = subst (AreHelped p columns inputs rows [] told) (sym e) (helped_won [] told tt)

  -- where none lost its column
  pub helped_empty :
      (told : List Told) (lost : List Lost) (left : List Left) → length lost ≡ 0 → left ≡ [] → AreHelped p columns inputs rows (numbers lost) told left
  helped_empty told [] left none e = helped_none told left e
  helped_empty told (l ∷ lost) left none e = absurd (omega (arith, none))

  -- all that lost their columns
  pub helped_whole :
      (told : List Told) (lost : List Lost) (left : List Left) (i : ℕ) → length lost ≤ i
      → AreHelped p columns inputs rows (numbers (take i lost)) told left → AreHelped p columns inputs rows (numbers lost) told left
  helped_whole told lost left i le h = subst (λ ls. AreHelped p columns inputs rows (numbers ls) told left) (take_all i lost le) h

  pub pivots_start : (left : List Left) (pivots : List ℕ) → left ≡ [] → pivots ≡ replicate columns 0 → ArePivots p columns inputs (rows_left left) pivots
  pivots_start left pivots e z = subst (λ ls. ArePivots p columns inputs (rows_left ls) pivots) (sym e) (pivots_none p columns inputs pivots z)

  -- the rows that have their columns, and those that were replaced
  pub helped_all :
      (mine : List ℕ) (old told : List Told) (lost : List Lost) (left : List Left)
      → AreClaimed rows mine old lost → IsToldAfter old told → AreHelped p columns inputs rows (numbers lost) told left
      → AreHelped p columns inputs rows mine told left
  helped_all mine old told lost left c f h =
      helped_permuted mine (numbers lost ++ c.won) told left c.split
      (subst (AreHelped p columns inputs rows (numbers lost ++ c.won) told) (append-nil left)
      (helped_beside (numbers lost) c.won told left [] h (helped_later c.won old told [] f (helped_won c.won old c.named))))

  -- what is left of a row is the pivot of its first column
  pub pivots_left :
      (left left' : List Left) (told : List Told) (number : ℕ) {column : ℕ} {row : RowShown} (r : RowShown) (pivots pivots' : List ℕ)
      → ArePivots p columns inputs (rows_left left) pivots → IsRestFrom p columns inputs column rows (rows_left left) told row r
      → left' ≡ left ++ record { number = number; row = r } ∷ [] → pivots' ≡ set pivots (first_column r.entries) (length left + 1)
      → ArePivots p columns inputs (rows_left left') pivots'
  pivots_left left left' told number {column} {row} r pivots pivots' h rest e is =
      subst₂ (ArePivots p columns inputs) (sym (map-append (λ (x : Left). x.row) left (record { number = number; row = r } ∷ [])) ∙ ap rows_left (sym e))
      (ap (λ n. set pivots (first_column r.entries) (n + 1)) (length-map left (λ (x : Left). x.row)) ∙ sym is)
      (pivots_more p columns inputs (rows_left left) pivots r h rest.good free within)
    where
      within : first_column r.entries < columns
      within = first_below p columns r.entries rest.good.entries rest.good.monic

      free : get_or pivots (first_column r.entries) 0 ≡ 0
      free = elim (cases_lt 0 (get_or pivots (first_column r.entries) 0)) [
        | inl some ↦ let at = h.named (first_column r.entries) within some in absurd (rest.apart (get_or pivots (first_column r.entries) 0 - 1) at.0 at.1)
        | inr none ↦ omega arith
      ]

  -- ---- a pass
  -- each lead is a column
  pub leads_within :
      (leads : List ℕ) → Each (IsRow p columns inputs) rows → leads ≡ row_leads_of rows
      → (row : ℕ) → row < length leads → slice_index leads row < columns
  leads_within leads good known row lt =
      let l : row < length rows = omega (arith, lt, ap length known, length-map rows (λ (r : RowShown). first_column r.entries)) in
      let h : IsRow p columns inputs (shown_row_at rows row) = Each_member (IsRow p columns inputs) rows row no_row good l in
      subst (λ c. c < columns) (sym (lead_read rows leads row known l)) (first_below p columns (shown_row_at rows row).entries h.entries h.monic)

  -- what helpers leave, and the words at the end
  pub passed :
      (leads leads' pending : List ℕ) (held held' words : List (Option ℕ)) (told : List Told) (left : List Left)
      → leads ≡ row_leads_of rows → leads' ≡ leads → held' ≡ held
      → AreHelped p columns inputs rows pending told left → Tallies leads' held' told words
      → IsPass p columns inputs rows held pending words left
  passed leads leads' pending held held' words told left known same kept h t = record {
    wide = t.wide ∙ ap length kept;
    fits = subst (λ xs. LeadsFit xs words) (same ∙ known) t.fits;
    stayed = λ column row names. t.stayed column row (subst (λ ws. WordNames ws column row) (sym kept) names);
    good = h.good;
    gone = h.gone;
    split = h.split;
    replaced = h.replaced words t.as_told;
    claimed = h.claimed words t.as_told;
    inside = h.inside words t.as_told;
    outside = h.outside;
    combined = h.combined;
  }
