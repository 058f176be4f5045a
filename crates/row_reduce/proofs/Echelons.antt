-- Pivots of rows, rows between two passes, and the echelon form that they are at the end
use Rattle.std.proofs.Common.{Contains, List, None, Option, Some, [], ap, append-nil, append_assoc, arith, eqb, false, get_or, drop, get_or-set_other, get_or-set_same, inl, inr, length, map, refl, replicate, reverse, set, subst, subst₂, suc, take, sym, true, zero, ℕ, ◌+◌, ◌++◌, ◌-◌, ◌<◌, ◌∙◌, ◌∷◌, ◌≡◌, ◌≤◌, ◌⊎◌}
use Rattle.std.proofs.lemmas.Bool.Decides.{Decides-eqb}
use Rattle.std.proofs.lemmas.Bool.{cases_eq, eq-eqb, eqb-true, ne_eqb}
use Rattle.std.proofs.lemmas.List.{get_or-map, get_or-reverse, get_or_append_left, get_or_default, get_or_push, length-append, length-map, length-replicate, length-reverse, length-set, length_push, map-append, map-id, reverse-append}
use Rattle.std.proofs.lemmas.List.Elements.{Contains-append_cases, Contains-append_right}
use Rattle.std.proofs.lemmas.List.FromFn.{get_or-map-range_with_len, get_or-range_with_len, length-map-range_with_len, length-range_with_len, map-range_with_len_more}
use Rattle.std.proofs.lemmas.List.Sorted.{Contains-permutation, IsPermutation-append_comm, IsPermutation-append_left, IsPermutation-append_right, IsPermutation-reverse, IsPermutation-sym, IsPermutation-trans, length_permutation, sum_by-IsPermutation}
use Rattle.std.proofs.lemmas.List.Sums.{sum_by-append, sum_by-cons}
use Rattle.std.proofs.lemmas.Option.{slice_get-get_or}
use Rattle.std.proofs.Math.Seq.{drop-cons}
use Rattle.std.proofs.lemmas.Map.Keys.{IsDistinct-IsPermutation}
use Rattle.std.proofs.lemmas.Map.Made.{IsDistinct-from_AllPairs}
use Rattle.std.proofs.lemmas.Map.Views.{Contains-from_any}
use Rattle.std.proofs.lemmas.Map.Steps.{length-le_from_distinct_below}
use Rattle.std.specs.List.Sorted.{IsPermutation}
use Rattle.std.specs.List.{AllByRecursion, IsDistinct, list_any, range_with_len}
use Rattle.formal_sums.proofs.WeightedSums.{Each_append}
use Rattle.formal_sums.specs.FormalSums.{Each, Key}
use Rattle.term_lists.proofs.Gathers.{Each_permutation}
use Rattle.term_lists.proofs.Scaling.{Each_at, take_item}
use Rattle.pivot_table.specs.Law.{LeadsFit}
use Rattle.row_laws.proofs.RowSpans.{IsInSpan_itself, IsInSpan_through}
use Rattle.row_laws.specs.Rows.{IsInSpan}
use Rattle.row_matrix.specs.Rows.{IsRow, RowShown, first_column, no_row, row_sum, shown_row_at}
use Rattle.dense_reduction.proofs.Adding.{Each_back, Each_front, Each_set}
use Rattle.dense_reduction.proofs.Entries.{first_below, monic_entries}
use Rattle.dense_reduction.proofs.Reducing.{zeros_at}
use Rattle.dense_reduction.specs.Pivots.{ArePivots, lead_column, row_vectors}
use Rattle.dense_reduction.specs.Rests.{rows_left}
use Rattle.dense_reduction.specs.Underway.{IsSpanned}
use Rattle.dense_reduction.specs.Words.{WordNames, row_leads_of, named}
use Rattle.dense_reduction.specs.declared.lefts.Left.{Left}
use Rattle.row_reduce.proofs.Orders.{vector_at}
use Rattle.row_reduce.specs.Echelons.{AreBetween, AreFrom, IsEchelonOf, IsPassOverSome, with_left, columns_behind}
use Rattle.row_reduce.specs.Passes.{IsLeftOf, IsPass, places}

-- ---- pivots of rows
-- a row whose first column has no pivot becomes one
pub pivots_more :
    (p columns inputs : ℕ) (rows : List RowShown) (pivots : List ℕ) (row : RowShown)
    → ArePivots p columns inputs rows pivots → IsRow p columns inputs row → get_or pivots (first_column row.entries) 0 ≡ 0
    → first_column row.entries < columns
    → ArePivots p columns inputs (rows ++ row ∷ []) (set pivots (first_column row.entries) (length rows + 1))
pivots_more p columns inputs rows pivots row h good free lt = record {
  monic = Each_append (IsRow p columns inputs) rows (row ∷ []) h.monic (good, tt);
  count = length-set pivots C (length rows + 1) ∙ h.count;
  named = λ c l pos. elim (cases_eq c C) [
    | inl e ↦
        let here : get_or pivots' c 0 ≡ length rows + 1 = ap (λ x. get_or pivots' x 0) e ∙ get_or-set_same pivots C (length rows + 1) 0 (omega (arith, h.count)) in
        let at : get_or pivots' c 0 - 1 ≡ length rows = omega arith in
        (subst (λ x. x < length rows') (sym at) (omega (arith, length_push rows row)), ap (lead_column rows') at ∙ ap (λ (r : RowShown). first_column r.entries) (get_or_push rows row no_row (length rows) refl) ∙ sym e)
    | inr ne ↦
        let same : get_or pivots' c 0 ≡ get_or pivots c 0 = get_or-set_other pivots C c (length rows + 1) 0 ne in
        let old = h.named c l (subst (λ x. 0 < x) same pos) in
        let lt' : get_or pivots c 0 - 1 < length rows = old.0 in
        (subst (λ x. x - 1 < length rows') (sym same) (omega (arith, length_push rows row)), ap (λ x. lead_column rows' (x - 1)) same ∙ ap (λ (r : RowShown). first_column r.entries) (get_or_append_left rows (row ∷ []) no_row (get_or pivots c 0 - 1) lt') ∙ old.1)
  ];
  all = λ k l. elim (cases_eq k (length rows)) [
    | inl e ↦
        let at : lead_column rows' k ≡ C = ap (λ (r : RowShown). first_column r.entries) (get_or_push rows row no_row k (sym e)) in
        ap (λ x. get_or pivots' x 0) at ∙ get_or-set_same pivots C (length rows + 1) 0 (omega (arith, h.count)) ∙ ap (λ x. x + 1) (sym e)
    | inr ne ↦
        let lt' : k < length rows = omega (arith, length_push rows row) in
        let at : lead_column rows' k ≡ lead_column rows k = ap (λ (r : RowShown). first_column r.entries) (get_or_append_left rows (row ∷ []) no_row k lt') in
        let other : lead_column rows k ≡ C → ⊥ = λ e. (let a : get_or pivots C 0 ≡ k + 1 = ap (λ x. get_or pivots x 0) (sym e) ∙ h.all k lt' in omega arith) in
        ap (λ x. get_or pivots' x 0) at ∙ get_or-set_other pivots C (lead_column rows k) (length rows + 1) 0 other ∙ h.all k lt'
  ];
}
  where
    C : ℕ
    C = first_column row.entries

    rows' : List RowShown
    rows' = rows ++ row ∷ []

    pivots' : List ℕ
    pivots' = set pivots (first_column row.entries) (length rows + 1)

-- no row yet
pub pivots_none :
    (p columns inputs : ℕ) (pivots : List ℕ) → pivots ≡ replicate columns 0 → ArePivots p columns inputs [] pivots
pivots_none p columns inputs pivots e = record {
  monic = tt;
  count = ap length e ∙ length-replicate columns 0;
  named = λ c l pos. (let z : get_or pivots c 0 ≡ 0 = ap (λ xs. get_or xs c 0) e ∙ zeros_at columns c in absurd (omega arith));
  all = λ k l. absurd (omega arith);
}

-- ---- lists
each_more : {X : Type 0} (P Q : X → Type 0) → ((x : X) → P x → Q x) → (xs : List X) → Each P xs → Each Q xs
each_more P Q f [] h = tt
each_more P Q f (x ∷ xs) h = (f x h.0, each_more P Q f xs h.1)

each_map : {X Y : Type 0} (P : Y → Type 0) (f : X → Y) (xs : List X) → Each (λ x. P (f x)) xs → Each P (map f xs)
each_map P f [] h = tt
each_map P f (x ∷ xs) h = (h.0, each_map P f xs h.1)

each_unmap : {X Y : Type 0} (P : Y → Type 0) (f : X → Y) (xs : List X) → Each P (map f xs) → Each (λ x. P (f x)) xs
each_unmap P f [] h = tt
each_unmap P f (x ∷ xs) h = (h.0, each_unmap P f xs h.1)

each_from : {X : Type 0} (P : X → Type 0) (d : X) (xs : List X) → ((i : ℕ) → i < length xs → P (get_or xs i d)) → Each P xs
each_from P d [] h = tt
each_from P d (x ∷ xs) h = (h 0 (omega arith), each_from P d xs (λ i lt. h (suc i) (omega arith)))

each_both : {X : Type 0} (P Q : X → Type 0) (xs : List X) → Each P xs → Each Q xs → Each (λ x. P x × Q x) xs
each_both P Q [] a b = tt
each_both P Q (x ∷ xs) a b = ((a.0, b.0), each_both P Q xs a.1 b.1)

pub row_of : (P : RowShown → Type 0) (rows : List RowShown) (k : ℕ) → Each P rows → k < length rows → P (shown_row_at rows k)
row_of P rows k h lt = Each_at P rows k (shown_row_at rows k) h lt (get_or_default rows k no_row (shown_row_at rows k) lt)

pub lead_at : (rows : List RowShown) (k : ℕ) → k < length rows → get_or (row_leads_of rows) k 0 ≡ lead_column rows k
lead_at rows k lt = get_or-map (λ (r : RowShown). first_column r.entries) rows k no_row 0 lt

row_some : (p columns inputs : ℕ) (r : RowShown) → IsRow p columns inputs r → 0 < length r.entries
row_some p columns inputs r good = (monic_entries p 0 columns r.entries good.entries good.monic).2

pub rows_some : (p columns inputs : ℕ) (rows : List RowShown) → Each (IsRow p columns inputs) rows → Each (λ (r : RowShown). 0 < length r.entries) rows
rows_some p columns inputs rows good = each_more (IsRow p columns inputs) (λ (r : RowShown). 0 < length r.entries) (row_some p columns inputs) rows good

member_of : (P : ℕ → Type 0) (xs : List ℕ) (x : ℕ) → Each P xs → Contains xs x → P x
member_of P xs x h c = Each_at P xs c.0 x h c.1 (sym c.2)

eqb_flips : (a b : ℕ) → eqb a b ≡ eqb b a
eqb_flips a b = elim (cases_eq a b) [
  | inl e ↦ eq-eqb a b e ∙ sym (eq-eqb b a (sym e))
  | inr ne ↦ ne_eqb a b ne ∙ sym (ne_eqb b a (λ e. ne (sym e)))
]

-- ---- spans
-- rows that others span add nothing
spanned_through : (p : ℕ) (A B : List RowShown) → Each (IsSpanned p A) B → (r : RowShown) → IsSpanned p B r → IsSpanned p A r
spanned_through p A B h r s = λ n key. IsInSpan_through (row_vectors key A) (row_vectors key B) (λ i lt. at n key B h i lt) (row_sum key r.entries) (s n key)
  where
    at :
        (n : ℕ) (key : ℕ → Key n) (B : List RowShown) → Each (IsSpanned p A) B
        → (i : ℕ) → i < length (row_vectors key B) → IsInSpan p (row_vectors key A) (get_or (row_vectors key B) i [])
    at n key [] h i lt = absurd (omega arith)
    at n key (b ∷ B) h zero lt = h.0 n key
    at n key (b ∷ B) h (suc i) lt = at n key B h.1 i (omega arith)

all_through : (p : ℕ) (A B C : List RowShown) → Each (IsSpanned p A) B → Each (IsSpanned p B) C → Each (IsSpanned p A) C
all_through p A B C h s = each_more (IsSpanned p B) (IsSpanned p A) (spanned_through p A B h) C s

spanned_itself : (p : ℕ) (A : List RowShown) (i : ℕ) → i < length A → IsSpanned p A (shown_row_at A i)
spanned_itself p A i lt = λ n key. subst (IsInSpan p (row_vectors key A)) (vector_at key A i lt) (IsInSpan_itself p (row_vectors key A) i)

all_itself : (p : ℕ) (A : List RowShown) → Each (IsSpanned p A) A
all_itself p A = each_from (IsSpanned p A) no_row A (spanned_itself p A)

member : (P : RowShown → Type 0) (A : List RowShown) (r : RowShown) → Each P A → Contains A r → P r
member P A r h c = subst P (get_or_default A c.0 no_row r c.1 ∙ c.2) (row_of P A c.0 h c.1)

-- ---- the rows that words name
some_some : (j k : ℕ) → Some (Some j) ≡ Some (Some k) → j ≡ k
some_some j k e = cc

named_each :
    (P : RowShown → Type 0) (rows : List RowShown) (words : List (Option ℕ))
    → ((c k : ℕ) → WordNames words c k → P (shown_row_at rows k)) → Each P (named rows words)
named_each P rows [] h = tt
named_each P rows (None ∷ words) h = named_each P rows words (λ c k e. h (suc c) k e)
named_each P rows (Some j ∷ words) h = (h 0 j refl, named_each P rows words (λ c k e. h (suc c) k e))

named_same :
    (rows others : List RowShown) (words : List (Option ℕ))
    → ((c k : ℕ) → WordNames words c k → shown_row_at others k ≡ shown_row_at rows k) → named others words ≡ named rows words
named_same rows others [] h = refl
named_same rows others (None ∷ words) h = named_same rows others words (λ c k e. h (suc c) k e)
named_same rows others (Some j ∷ words) h =
    let first = h 0 j refl in
    let rest = named_same rows others words (λ c k e. h (suc c) k e) in
    ap (λ r. r ∷ named others words) first ∙ ap (λ xs. shown_row_at rows j ∷ xs) rest

contains_more : {X : Type 0} (x : X) (xs : List X) (y : X) → Contains xs y → Contains (x ∷ xs) y
contains_more x xs y h = (suc h.0, omega (arith, h.1), h.2)

named_contains : (rows : List RowShown) (words : List (Option ℕ)) (c k : ℕ) → WordNames words c k → Contains (named rows words) (shown_row_at rows k)
named_contains rows [] c k e = cc
named_contains rows (None ∷ words) zero k e = cc
named_contains rows (Some j ∷ words) zero k e = (0, omega arith, ap (shown_row_at rows) (some_some j k e))
named_contains rows (None ∷ words) (suc c) k e = named_contains rows words c k e
named_contains rows (Some j ∷ words) (suc c) k e = contains_more (shown_row_at rows j) (named rows words) (shown_row_at rows k) (named_contains rows words c k e)

-- ---- rows in the places of others
length_placed : (rows : List RowShown) (left : List Left) → length (with_left rows left) ≡ length rows
length_placed rows [] = refl
length_placed rows (l ∷ left) = length_placed (set rows l.number l.row) left ∙ length-set rows l.number l.row

each_placed : (P : RowShown → Type 0) (rows : List RowShown) (left : List Left) → Each P rows → Each P (rows_left left) → Each P (with_left rows left)
each_placed P rows [] h new = h
each_placed P rows (l ∷ left) h new = each_placed P (set rows l.number l.row) left (Each_set P rows l.number l.row h new.0) new.1

placed_other :
    (rows : List RowShown) (left : List Left) (k : ℕ)
    → Each (λ (l : Left). l.number ≡ k → ⊥) left → shown_row_at (with_left rows left) k ≡ shown_row_at rows k
placed_other rows [] k h = refl
placed_other rows (l ∷ left) k h =
    placed_other (set rows l.number l.row) left k h.1 ∙ get_or-set_other rows l.number k l.row no_row (λ e. h.0 (sym e))

apart_from : (n : ℕ) (left : List Left) → AllByRecursion (λ y. eqb n y ≡ false) (places left) → Each (λ (l : Left). l.number ≡ n → ⊥) left
apart_from n [] h = tt
apart_from n (l ∷ left) h = ((λ e. (let t = eq-eqb n l.number (sym e) in let f : true ≡ false = sym t ∙ h.0 in cc)), apart_from n left h.1)

placed_there :
    (rows : List RowShown) (left : List Left)
    → IsDistinct eqb (places left) → Each (λ k. k < length rows) (places left) → Each (λ (l : Left). shown_row_at (with_left rows left) l.number ≡ l.row) left
unfolding IsDistinct
placed_there rows [] apart within = tt
placed_there rows (l ∷ left) apart within =
    let rows' = set rows l.number l.row in
    let size : length rows' ≡ length rows = length-set rows l.number l.row in (
      placed_other rows' left l.number (apart_from l.number left apart.0) ∙ get_or-set_same rows l.number l.row no_row within.0,
      placed_there rows' left apart.1 (each_more (λ k. k < length rows) (λ k. k < length rows') (λ k lt. subst (λ n. k < n) (sym size) lt) (places left) within.1),
    )

places_rows :
    (rows : List RowShown) (left : List Left)
    → Each (λ (l : Left). shown_row_at rows l.number ≡ l.row) left → map (shown_row_at rows) (places left) ≡ rows_left left
places_rows rows [] h = refl
places_rows rows (l ∷ left) h =
    let rest = places_rows rows left h.1 in
    ap (λ (r : RowShown). r ∷ map (shown_row_at rows) (places left)) h.0 ∙ ap (λ xs. l.row ∷ xs) rest

distinct_front : (xs ys : List ℕ) → IsDistinct eqb (xs ++ ys) → IsDistinct eqb xs
unfolding IsDistinct
distinct_front [] ys h = tt
distinct_front (x ∷ xs) ys h = (front xs h.0, distinct_front xs ys h.1)
  where
    front : (zs : List ℕ) → AllByRecursion (λ y. eqb x y ≡ false) (zs ++ ys) → AllByRecursion (λ y. eqb x y ≡ false) zs
    front [] g = tt
    front (z ∷ zs) g = (g.0, front zs g.1)

-- each of the rows left has fewer columns behind its lead
room_less :
    (columns : ℕ) (rows others : List RowShown) (left : List Left)
    → Each (λ (l : Left). (lead_column rows l.number < first_column l.row.entries) × (first_column l.row.entries < columns)) left
    → Each (λ (l : Left). shown_row_at others l.number ≡ l.row) left
    → columns_behind columns others (places left) + length left ≤ columns_behind columns rows (places left)
room_less columns rows others [] h same = omega arith
room_less columns rows others (l ∷ left) h same =
    let more = room_less columns rows others left h.1 same.1 in
    let new : columns_behind columns others (places (l ∷ left)) ≡ (columns - lead_column others l.number) + columns_behind columns others (places left)
    = sum_by-cons (λ k. columns - lead_column others k) l.number (places left) in
    let old : columns_behind columns rows (places (l ∷ left)) ≡ (columns - lead_column rows l.number) + columns_behind columns rows (places left)
    = sum_by-cons (λ k. columns - lead_column rows k) l.number (places left) in
    let at : lead_column others l.number ≡ first_column l.row.entries = ap (λ (r : RowShown). first_column r.entries) same.0 in
    let a : lead_column rows l.number < first_column l.row.entries = h.0.0 in
    let b : first_column l.row.entries < columns = h.0.1 in
    omega arith

room_some : (columns : ℕ) (rows : List RowShown) (ks : List ℕ) → Each (λ k. lead_column rows k < columns) ks → length ks ≤ columns_behind columns rows ks
room_some columns rows [] h = omega arith
room_some columns rows (k ∷ ks) h =
    let more = room_some columns rows ks h.1 in
    let all : columns_behind columns rows (k ∷ ks) ≡ (columns - lead_column rows k) + columns_behind columns rows ks = sum_by-cons (λ m. columns - lead_column rows m) k ks in
    let lt : lead_column rows k < columns = h.0 in
    omega arith

lead_below :
    (p columns inputs : ℕ) (rows : List RowShown) → Each (IsRow p columns inputs) rows
    → (k : ℕ) → k < length rows → lead_column rows k < columns
lead_below p columns inputs rows good k lt =
    let g = row_of (IsRow p columns inputs) rows k good lt in
    first_below p columns (shown_row_at rows k).entries g.entries g.monic

-- the leads that are known are columns
pub leads_columns :
    (p columns inputs : ℕ) (rows : List RowShown) (leads : List ℕ) (held : List (Option ℕ)) (pending : List ℕ)
    → AreBetween p columns inputs rows leads held pending → Each (λ c. c < columns) leads
leads_columns p columns inputs rows leads held pending h =
    subst (Each (λ c. c < columns)) (sym h.ready.known)
    (each_map (λ c. c < columns) (λ (r : RowShown). first_column r.entries) rows
    (each_more (IsRow p columns inputs) (λ (r : RowShown). first_column r.entries < columns) (λ r good. first_below p columns r.entries good.entries good.monic) rows h.ready.monic))

-- a pending row has a column
pub columns_some :
    (p columns inputs : ℕ) (rows : List RowShown) (leads : List ℕ) (held : List (Option ℕ)) (pending : List ℕ)
    → AreBetween p columns inputs rows leads held pending → 0 < length pending → 0 < columns
columns_some p columns inputs rows leads held [] h pos = absurd (omega arith)
columns_some p columns inputs rows leads held (k ∷ ks) h pos = let lt = lead_below p columns inputs rows h.ready.monic k h.known.0 in omega arith

-- of two parts of a list without repetition
distinct_parts : (xs ys : List ℕ) → IsDistinct eqb (xs ++ ys) → Each (λ y. Each (λ x. x ≡ y → ⊥) xs) ys
unfolding IsDistinct
distinct_parts [] ys h = each_from (λ y. Each {X = ℕ} (λ x. x ≡ y → ⊥) []) 0 ys (λ i lt. tt)
distinct_parts (x ∷ xs) ys h =
    each_both (λ y. x ≡ y → ⊥) (λ y. Each (λ z. z ≡ y → ⊥) xs) ys (others xs h.0) (distinct_parts xs ys h.1)
  where
    behind : (zs : List ℕ) → AllByRecursion (λ y. eqb x y ≡ false) zs → Each (λ y. x ≡ y → ⊥) zs
    behind [] g = tt
    behind (z ∷ zs) g = ((λ e. (let t = eq-eqb x z e in let f : true ≡ false = sym t ∙ g.0 in cc)), behind zs g.1)

    others : (zs : List ℕ) → AllByRecursion (λ y. eqb x y ≡ false) (zs ++ ys) → Each (λ y. x ≡ y → ⊥) ys
    others [] g = behind ys g
    others (z ∷ zs) g = others zs g.1

map_same : (f g : ℕ → RowShown) (ks : List ℕ) → Each (λ k. f k ≡ g k) ks → map f ks ≡ map g ks
map_same f g [] h = refl
map_same f g (k ∷ ks) h = ap (λ r. r ∷ map f ks) h.0 ∙ ap (λ rs. g k ∷ rs) (map_same f g ks h.1)

behind_same :
    (columns : ℕ) (rows others : List RowShown) (ks : List ℕ) → Each (λ k. shown_row_at others k ≡ shown_row_at rows k) ks
    → columns_behind columns others ks ≡ columns_behind columns rows ks
behind_same columns rows others [] h = refl
behind_same columns rows others (k ∷ ks) h =
    sum_by-cons (λ m. columns - lead_column others m) k ks
    ∙ ap (λ (r : RowShown). (columns - first_column r.entries) + columns_behind columns others ks) h.0
    ∙ ap (λ b. (columns - lead_column rows k) + b) (behind_same columns rows others ks h.1)
    ∙ sym (sum_by-cons (λ m. columns - lead_column rows m) k ks)

-- the last two of three parts in turn
turned_parts : (a b c : List ℕ) → IsPermutation ((a ++ b) ++ c) ((a ++ c) ++ b)
turned_parts a b c =
    subst₂ IsPermutation (sym (append_assoc a b c)) (sym (append_assoc a c b)) (IsPermutation-append_right a (b ++ c) (c ++ b) (IsPermutation-append_comm b c))

-- ---- a pass over some of the rows
module _ (p columns inputs : ℕ) (rows : List RowShown) (leads : List ℕ) (held : List (Option ℕ)) (pending : List ℕ) (words : List (Option ℕ)) (left : List Left)
    (later : List ℕ)
    (h : AreBetween p columns inputs rows leads held pending) (some : IsPassOverSome p columns inputs rows held pending words left later) where
  abbrev now : List ℕ
  now = some.now

  abbrev pass : IsPass p columns inputs rows held some.now words left
  pass = some.pass

  abbrev new : List RowShown
  new = with_left rows left

  known : Each (λ k. k < length rows) (now ++ later)
  known = Each_permutation (λ k. k < length rows) pending (now ++ later) some.parts h.known

  known_later : Each (λ k. k < length rows) later
  known_later = Each_back (λ k. k < length rows) now later known

  all_known : Each (λ k. k < length rows) (places left ++ pass.gone)
  all_known = Each_permutation (λ k. k < length rows) now (places left ++ pass.gone) pass.split (Each_front (λ k. k < length rows) now later known)

  pub places_known : Each (λ k. k < length rows) (places left)
  places_known = Each_front (λ k. k < length rows) (places left) pass.gone all_known

  pub left_some : Each (λ (r : RowShown). 0 < length r.entries) (rows_left left)
  left_some = rows_some p columns inputs (rows_left left) pass.good

  whole : IsPermutation pending ((places left ++ later) ++ pass.gone)
  whole =
      IsPermutation-trans pending (now ++ later) ((places left ++ later) ++ pass.gone) some.parts
      (IsPermutation-trans (now ++ later) ((places left ++ pass.gone) ++ later) ((places left ++ later) ++ pass.gone)
      (IsPermutation-append_left later now (places left ++ pass.gone) pass.split) (turned_parts (places left) pass.gone later))

  next_apart : IsDistinct eqb (places left ++ later)
  next_apart =
      distinct_front (places left ++ later) pass.gone
      (IsDistinct-IsPermutation eqb eqb_flips pending ((places left ++ later) ++ pass.gone) whole h.apart)

  there : Each (λ (l : Left). shown_row_at new l.number ≡ l.row) left
  there = placed_there rows left (distinct_front (places left) later next_apart) places_known

  -- the rows for later passes stay
  later_stay : Each (λ k. shown_row_at new k ≡ shown_row_at rows k) later
  later_stay =
      each_more (λ k. Each (λ x. x ≡ k → ⊥) (places left)) (λ k. shown_row_at new k ≡ shown_row_at rows k)
      (λ k apart. placed_other rows left k (each_unmap (λ x. x ≡ k → ⊥) (λ (l : Left). l.number) left apart)) later
      (distinct_parts (places left) later next_apart)

  -- the row that has a column stays
  untouched : (c k : ℕ) → WordNames words c k → shown_row_at new k ≡ shown_row_at rows k
  untouched c k e = placed_other rows left k (each_more (IsLeftOf rows words) (λ (l : Left). l.number ≡ k → ⊥) (λ l lost same. clash l lost same) left pass.replaced)
    where
      fit : (k < length (row_leads_of rows)) × (get_or (row_leads_of rows) k 0 ≡ c)
      fit = pass.fits c k e

      lead : lead_column rows k ≡ c
      lead = sym (lead_at rows k (omega (arith, fit.0, length-map rows (λ (r : RowShown). first_column r.entries)))) ∙ fit.1

      clash : (l : Left) → IsLeftOf rows words l → l.number ≡ k → ⊥
      clash l lost same =
          let mine : WordNames words c lost.winner = subst (λ d. WordNames words d lost.winner) (ap (lead_column rows) same ∙ lead) lost.lost in
          let one : Some (Some lost.winner) ≡ Some (Some k) = sym mine ∙ e in
          lost.other (some_some lost.winner k one ∙ sym same)

  same_named : named new words ≡ named rows words
  same_named = named_same rows new words untouched

  same_left : map (shown_row_at new) (places left) ≡ rows_left left
  same_left = places_rows new left there

  monic : Each (IsRow p columns inputs) new
  monic = each_placed (IsRow p columns inputs) rows left h.ready.monic pass.good

  fits : LeadsFit (row_leads_of new) words
  fits c k e =
      let old = pass.fits c k e in
      let lt : k < length rows = omega (arith, old.0, length-map rows (λ (r : RowShown). first_column r.entries)) in
      let lt' : k < length new = omega (arith, length_placed rows left) in (
        omega (arith, length-map new (λ (r : RowShown). first_column r.entries)),
        lead_at new k lt' ∙ ap (λ (r : RowShown). first_column r.entries) (untouched c k e) ∙ sym (lead_at rows k lt) ∙ old.1,
      )

  pub between_next : AreBetween p columns inputs new (row_leads_of new) words (places left ++ later)
  between_next = record {
    ready = record { monic = monic; known = refl; wide = pass.wide ∙ h.ready.wide };
    fits = fits;
    known = each_more (λ k. k < length rows) (λ k. k < length new) (λ k lt. subst (λ n. k < n) (sym (length_placed rows left)) lt) (places left ++ later)
        (Each_append (λ k. k < length rows) (places left) later places_known known_later);
    apart = next_apart;
  }

  -- what spans all from now on
  abbrev spanning : List RowShown
  spanning = (named rows words ++ rows_left left) ++ map (shown_row_at rows) later

  new_span : named new words ++ map (shown_row_at new) (places left ++ later) ≡ spanning
  new_span =
      ap (λ xs. xs ++ map (shown_row_at new) (places left ++ later)) same_named
      ∙ ap (λ xs. named rows words ++ xs) (map-append (shown_row_at new) (places left) later ∙ ap (λ xs. xs ++ map (shown_row_at new) later) same_left
      ∙ ap (λ xs. rows_left left ++ xs) (map_same (shown_row_at new) (shown_row_at rows) later later_stay))
      ∙ sym (append_assoc (named rows words) (rows_left left) (map (shown_row_at rows) later))

  itself : Each (IsSpanned p spanning) spanning
  itself = all_itself p spanning

  through : Each (IsSpanned p spanning) (named rows words ++ rows_left left)
  through = Each_front (IsSpanned p spanning) (named rows words ++ rows_left left) (map (shown_row_at rows) later) itself

  old_in : Each (IsSpanned p spanning) (named rows held ++ map (shown_row_at rows) (now ++ later))
  old_in =
      let front : Each (IsSpanned p spanning) (named rows words) = Each_front (IsSpanned p spanning) (named rows words) (rows_left left) through in
      Each_append (IsSpanned p spanning) (named rows held) (map (shown_row_at rows) (now ++ later))
      (named_each (IsSpanned p spanning) rows held (λ c k e. member (IsSpanned p spanning) (named rows words) (shown_row_at rows k) front (named_contains rows words c k (pass.stayed c k e))))
      (subst (Each (IsSpanned p spanning)) (sym (map-append (shown_row_at rows) now later))
      (Each_append (IsSpanned p spanning) (map (shown_row_at rows) now) (map (shown_row_at rows) later)
      (all_through p spanning (named rows words ++ rows_left left) (map (shown_row_at rows) now) through (each_map (IsSpanned p (named rows words ++ rows_left left)) (shown_row_at rows) now pass.inside))
      (Each_back (IsSpanned p spanning) (named rows words ++ rows_left left) (map (shown_row_at rows) later) itself)))

  all_in : Each (IsSpanned p spanning) (named rows held ++ map (shown_row_at rows) pending)
  all_in =
      Each_append (IsSpanned p spanning) (named rows held) (map (shown_row_at rows) pending)
      (Each_front (IsSpanned p spanning) (named rows held) (map (shown_row_at rows) (now ++ later)) old_in)
      (each_map (IsSpanned p spanning) (shown_row_at rows) pending
      (Each_permutation (λ k. IsSpanned p spanning (shown_row_at rows k)) (now ++ later) pending (IsPermutation-sym pending (now ++ later) some.parts)
      (each_unmap (IsSpanned p spanning) (shown_row_at rows) (now ++ later) (Each_back (IsSpanned p spanning) (named rows held) (map (shown_row_at rows) (now ++ later)) old_in))))

  -- a lead whose row is pending has its column, or is pending still
  lead_next :
      (c i : ℕ) → lead_column rows i ≡ c → Contains pending i
      → ((k : ℕ) × WordNames words c k) ⊎ (Contains (places left ++ later) i × (lead_column new i ≡ c))
  lead_next c i e there = elim (Contains-append_cases now later i (Contains-permutation pending (now ++ later) i some.parts there)) [
    | inl k ↦
        let own = member_of (λ m. (w : ℕ) × WordNames words (lead_column rows m) w) now i pass.claimed k in
        inl (own.0, subst (λ d. WordNames words d own.0) e own.1)
    | inr k ↦
        let same : shown_row_at new i ≡ shown_row_at rows i = member_of (λ m. shown_row_at new m ≡ shown_row_at rows m) later i later_stay k in
        inr (Contains-append_right (places left) later i k, ap (λ (r : RowShown). first_column r.entries) same ∙ e)
  ]

  -- what rows come from the rows next come from
  pub from_next : (M : List RowShown) → AreFrom p M rows held pending → AreFrom p M new words (places left ++ later)
  from_next M from = record {
    count = length_placed rows left ∙ from.count;
    leads = λ i lt. elim (from.leads i lt) [
      | inl k ↦ inl (k.0, pass.stayed (lead_column M i) k.0 k.1)
      | inr k ↦ lead_next (lead_column M i) i k.1 k.0
    ];
    inside = subst (λ S. Each (IsSpanned p S) M) (sym new_span) (all_through p spanning (named rows held ++ map (shown_row_at rows) pending) M all_in from.inside);
    outside = each_placed (IsSpanned p M) rows left from.outside (all_through p M rows (rows_left left) from.outside pass.outside);
    combined = λ n F key all.
        let old = from.combined n F key all in
        each_placed _ rows left old (pass.combined n F key old);
  }

  below : (k : ℕ) → k < length rows → lead_column rows k < columns
  below = lead_below p columns inputs rows h.ready.monic

  -- and there are fewer columns behind the leads of the rows of this pass
  room_now : columns_behind columns new (places left) < columns_behind columns rows now
  room_now =
      let f = λ (k : ℕ). columns - lead_column rows k in
      let split : columns_behind columns rows (places left ++ pass.gone) ≡ columns_behind columns rows now = sum_by-IsPermutation f now (places left ++ pass.gone) pass.split in
      let halves : columns_behind columns rows (places left ++ pass.gone) ≡ columns_behind columns rows (places left) + columns_behind columns rows pass.gone = sum_by-append f (places left) pass.gone in
      let less = room_less columns rows new left fewer there in
      let gone = room_some columns rows pass.gone
      (each_more (λ k. k < length rows) (λ k. lead_column rows k < columns) below pass.gone (Each_back (λ k. k < length rows) (places left) pass.gone all_known)) in
      let count : length (places left ++ pass.gone) ≡ length now = length_permutation now (places left ++ pass.gone) pass.split in
      let sizes : length (places left ++ pass.gone) ≡ length (places left) + length pass.gone = length-append (places left) pass.gone in
      let size : length (places left) ≡ length left = length-map left (λ (l : Left). l.number) in
      omega (arith, some.some)
    where
      fewer : Each (λ (l : Left). (lead_column rows l.number < first_column l.row.entries) × (first_column l.row.entries < columns)) left
      fewer =
          each_both (λ (l : Left). lead_column rows l.number < first_column l.row.entries) (λ (l : Left). first_column l.row.entries < columns) left
          (each_more (IsLeftOf rows words) (λ (l : Left). lead_column rows l.number < first_column l.row.entries) (λ l lost. lost.lower) left pass.replaced)
          (each_unmap (λ (r : RowShown). first_column r.entries < columns) (λ (l : Left). l.row) left
          (each_more (IsRow p columns inputs) (λ (r : RowShown). first_column r.entries < columns) (λ r good. first_below p columns r.entries good.entries good.monic) (rows_left left) pass.good))

  -- and so behind those of pending rows
  pub room_next : columns_behind columns new (places left ++ later) < columns_behind columns rows pending
  room_next =
      let f = λ (k : ℕ). columns - lead_column rows k in
      let g = λ (k : ℕ). columns - lead_column new k in
      let old : columns_behind columns rows (now ++ later) ≡ columns_behind columns rows pending = sum_by-IsPermutation f pending (now ++ later) some.parts in
      let parts : columns_behind columns rows (now ++ later) ≡ columns_behind columns rows now + columns_behind columns rows later = sum_by-append f now later in
      let next : columns_behind columns new (places left ++ later) ≡ columns_behind columns new (places left) + columns_behind columns new later
      = sum_by-append g (places left) later in
      let same = behind_same columns rows new later later_stay in
      omega (arith, room_now)

-- ---- the first pass
none_named : (columns c k : ℕ) → WordNames (replicate columns None) c k → ⊥
none_named zero c k e = cc
none_named (suc columns) zero k e = cc
none_named (suc columns) (suc c) k e = none_named columns c k e

named_none : (rows : List RowShown) (columns : ℕ) → named rows (replicate columns None) ≡ []
named_none rows zero = refl
named_none rows (suc columns) = named_none rows columns

range_below : (n : ℕ) → Each (λ k. k < n) (range_with_len 0 n)
range_below n =
    each_from (λ k. k < n) 0 (range_with_len 0 n)
    (λ i lt. (let l : i < n = omega (arith, length-range_with_len 0 n) in let e : get_or (range_with_len 0 n) i 0 ≡ 0 + i = get_or-range_with_len 0 n i 0 l in omega arith))

range_apart : (n : ℕ) → IsDistinct eqb (range_with_len 0 n)
range_apart n = IsDistinct-from_AllPairs Decides-eqb (range_with_len 0 n) (λ i j d lt l same.
    (let m : j < n = omega (arith, length-range_with_len 0 n) in
    let a : get_or (range_with_len 0 n) i d ≡ 0 + i = get_or-range_with_len 0 n i d (omega arith) in
    let b : get_or (range_with_len 0 n) j d ≡ 0 + j = get_or-range_with_len 0 n j d m in
    let e : get_or (range_with_len 0 n) i d ≡ get_or (range_with_len 0 n) j d = same in
    omega arith))

-- all rows are pending
pub between_start :
    (p columns inputs : ℕ) (rows : List RowShown) → Each (IsRow p columns inputs) rows
    → AreBetween p columns inputs rows (row_leads_of rows) (replicate columns None) (range_with_len 0 (length rows))
between_start p columns inputs rows good = record {
  ready = record { monic = good; known = refl; wide = length-replicate columns None };
  fits = λ c k e. absurd (none_named columns c k e);
  known = range_below (length rows);
  apart = range_apart (length rows);
}

abbrev pending_rows : List RowShown → List RowShown
pending_rows rows = map (shown_row_at rows) (range_with_len 0 (length rows))

pub from_start :
    (p columns : ℕ) (rows : List RowShown) → AreFrom p rows rows (replicate columns None) (range_with_len 0 (length rows))
from_start p columns rows = record {
  count = refl;
  leads = λ i lt. inr ((i, omega (arith, length-range_with_len 0 (length rows)), get_or-range_with_len 0 (length rows) i i lt ∙ plain i), refl);
  inside = subst (λ xs. Each (IsSpanned p (xs ++ pending_rows rows)) rows) (sym (named_none rows columns))
      (each_from (IsSpanned p (pending_rows rows)) no_row rows
      (λ i lt. subst (IsSpanned p (pending_rows rows)) (get_or-map-range_with_len (shown_row_at rows) 0 (length rows) i i no_row lt (plain i))
      (spanned_itself p (pending_rows rows) i (omega (arith, length-map-range_with_len (shown_row_at rows) 0 (length rows))))));
  outside = all_itself p rows;
  combined = λ n F key from. from;
}
  where
    plain : (i : ℕ) → 0 + i ≡ i
    plain i = omega arith

-- ---- the end
numbers : List (Option ℕ) → List ℕ
numbers [] = []
numbers (None ∷ words) = numbers words
numbers (Some k ∷ words) = k ∷ numbers words

-- words that name rows with the leads b, b + 1 and so on
module _ (rows : List RowShown) where
  abbrev AreLeads : ℕ → List (Option ℕ) → Type 0
  AreLeads b words = (c k : ℕ) → WordNames words c k → lead_column rows k ≡ b + c

  leads_behind : (b : ℕ) (w : Option ℕ) (words : List (Option ℕ)) → AreLeads b (w ∷ words) → AreLeads (b + 1) words
  leads_behind b w words h c k e = h (suc c) k e ∙ (let q : b + suc c ≡ (b + 1) + c = omega arith in q)

  lead_from : (b : ℕ) (words : List (Option ℕ)) → AreLeads b words → (i : ℕ) → i < length (named rows words) → b ≤ lead_column (named rows words) i
  lead_from b [] h i lt = absurd (omega arith)
  lead_from b (None ∷ words) h i lt = let more = lead_from (b + 1) words (leads_behind b None words h) i lt in omega arith
  lead_from b (Some j ∷ words) h zero lt = let here = h 0 j refl in omega arith
  lead_from b (Some j ∷ words) h (suc i) lt = let more = lead_from (b + 1) words (leads_behind b (Some j) words h) i (omega arith) in omega arith

  leads_ascend :
      (b : ℕ) (words : List (Option ℕ)) → AreLeads b words
      → (i j : ℕ) → i < j → j < length (named rows words) → lead_column (named rows words) i < lead_column (named rows words) j
  leads_ascend b [] h i j lt l = absurd (omega arith)
  leads_ascend b (None ∷ words) h i j lt l = leads_ascend (b + 1) words (leads_behind b None words h) i j lt l
  leads_ascend b (Some r ∷ words) h i zero lt l = absurd (omega arith)
  leads_ascend b (Some r ∷ words) h zero (suc j) lt l =
      let here = h 0 r refl in
      let more = lead_from (b + 1) words (leads_behind b (Some r) words h) j (omega arith) in
      omega arith
  leads_ascend b (Some r ∷ words) h (suc i) (suc j) lt l = leads_ascend (b + 1) words (leads_behind b (Some r) words h) i j (omega arith) (omega arith)

  length_numbers : (words : List (Option ℕ)) → length (numbers words) ≡ length (named rows words)
  unfolding numbers
  length_numbers [] = refl
  length_numbers (None ∷ words) = length_numbers words
  length_numbers (Some k ∷ words) = ap (λ m. suc m) (length_numbers words)

  numbers_away : (b r : ℕ) (words : List (Option ℕ)) → AreLeads b words → lead_column rows r < b → AllByRecursion (λ y. eqb r y ≡ false) (numbers words)
  unfolding numbers
  numbers_away b r [] h lt = tt
  numbers_away b r (None ∷ words) h lt = numbers_away (b + 1) r words (leads_behind b None words h) (omega arith)
  numbers_away b r (Some k ∷ words) h lt = (
    ne_eqb r k (λ e. (let here = h 0 k refl in let same : lead_column rows r ≡ lead_column rows k = ap (lead_column rows) e in omega arith)),
    numbers_away (b + 1) r words (leads_behind b (Some k) words h) (omega arith),
  )

  numbers_apart : (b : ℕ) (words : List (Option ℕ)) → AreLeads b words → IsDistinct eqb (numbers words)
  unfolding numbers IsDistinct
  numbers_apart b [] h = tt
  numbers_apart b (None ∷ words) h = numbers_apart (b + 1) words (leads_behind b None words h)
  numbers_apart b (Some k ∷ words) h = (
    numbers_away (b + 1) k words (leads_behind b (Some k) words h) (let here = h 0 k refl in omega arith),
    numbers_apart (b + 1) words (leads_behind b (Some k) words h),
  )

  numbers_below :
      (words : List (Option ℕ)) → ((c k : ℕ) → WordNames words c k → k < length rows) → (q : ℕ) → list_any (eqb q) (numbers words) ≡ true → q < length rows
  unfolding numbers
  numbers_below words h q e = member_of (λ k. k < length rows) (numbers words) q (all words h) (Contains-from_any (λ x y same. eqb-true x y same) q (numbers words) e)
    where
      all : (ws : List (Option ℕ)) → ((c k : ℕ) → WordNames ws c k → k < length rows) → Each (λ k. k < length rows) (numbers ws)
      all [] g = tt
      all (None ∷ ws) g = all ws (λ c k e. g (suc c) k e)
      all (Some k ∷ ws) g = (g 0 k refl, all ws (λ c k e. g (suc c) k e))

module _ (p columns inputs : ℕ) (M rows : List RowShown) (leads : List ℕ) (held : List (Option ℕ)) (pending : List ℕ)
    (h : AreBetween p columns inputs rows leads held pending) (from : AreFrom p M rows held pending) (none : pending ≡ []) where
  fit : (c k : ℕ) → WordNames held c k → (k < length rows) × (lead_column rows k ≡ c)
  fit c k e =
      let f = subst (λ ls. LeadsFit ls held) h.ready.known h.fits c k e in
      let lt : k < length rows = omega (arith, f.0, length-map rows (λ (r : RowShown). first_column r.entries)) in
      (lt, sym (lead_at rows k lt) ∙ f.1)

  ascending : AreLeads rows 0 held
  ascending c k e = (fit c k e).1 ∙ (let q : c ≡ 0 + c = omega arith in q)

  each_named : (P : RowShown → Type 0) → Each P rows → Each P (reverse (named rows held))
  each_named P all =
      Each_permutation P (named rows held) (reverse (named rows held)) (IsPermutation-reverse (named rows held))
      (named_each P rows held (λ c k e. row_of P rows k all (fit c k e).0))

  size : length (reverse (named rows held)) ≡ length (named rows held)
  size = length-reverse (named rows held)

  apart : (j k : ℕ) → j < k → k < length (reverse (named rows held)) → lead_column (reverse (named rows held)) j ≡ lead_column (reverse (named rows held)) k → ⊥
  apart j k lt l e =
      let N = named rows held in
      let at_j : lead_column (reverse N) j ≡ lead_column N (length N - 1 - j) = ap (λ (r : RowShown). first_column r.entries) (get_or-reverse N j no_row (omega (arith, size))) in
      let at_k : lead_column (reverse N) k ≡ lead_column N (length N - 1 - k) = ap (λ (r : RowShown). first_column r.entries) (get_or-reverse N k no_row (omega (arith, size))) in
      let less = leads_ascend rows 0 held ascending (length N - 1 - k) (length N - 1 - j) (omega (arith, size)) (omega (arith, size)) in
      omega arith

  few : length (reverse (named rows held)) ≤ length M
  few = omega (
    arith,
    size,
    length_numbers rows held,
    from.count,
    length-le_from_distinct_below (numbers held) (length rows) (numbers_apart rows 0 held ascending) (numbers_below rows held (λ c k e. (fit c k e).0)),
  )

  with_lead : (i : ℕ) → i < length M → (k : ℕ) × (k < length (reverse (named rows held))) × (lead_column (reverse (named rows held)) k ≡ lead_column M i)
  with_lead i lt = elim (from.leads i lt) [
    | inl w ↦
        let N = named rows held in
        let there = Contains-permutation N (reverse N) (shown_row_at rows w.0) (IsPermutation-reverse N) (named_contains rows held (lead_column M i) w.0 w.1) in
        (there.0, there.1, ap (λ (r : RowShown). first_column r.entries) (get_or_default (reverse N) there.0 no_row (shown_row_at rows w.0) there.1 ∙ there.2) ∙ (fit (lead_column M i) w.0 w.1).1)
    | inr w ↦ absurd (let lt' : w.0.0 < length pending = w.0.1 in let z : length pending ≡ 0 = ap length none in omega arith)
  ]

  spanned : Each (IsSpanned p (reverse (named rows held))) M
  spanned =
      let N = named rows held in
      let all : N ++ map (shown_row_at rows) pending ≡ N = ap (λ ks. N ++ map (shown_row_at rows) ks) none ∙ append-nil N in
      all_through p (reverse N) N M
      (Each_permutation (IsSpanned p (reverse N)) (reverse N) N (IsPermutation-sym N (reverse N) (IsPermutation-reverse N)) (all_itself p (reverse N)))
      (subst (λ S. Each (IsSpanned p S) M) all from.inside)

  -- nothing is pending: the rows with columns are an echelon form
  pub echelon_end : IsEchelonOf p columns inputs M (reverse (named rows held))
  echelon_end = record {
    rows = each_named (IsRow p columns inputs) h.ready.monic;
    apart = apart;
    few = few;
    leads = with_lead;
    inside = λ n key i lt. subst (IsInSpan p (row_vectors key (reverse (named rows held)))) (sym (vector_at key M i lt)) (row_of (IsSpanned p (reverse (named rows held))) M i spanned lt n key);
    outside = λ n key k lt. subst (IsInSpan p (row_vectors key M)) (sym (vector_at key (reverse (named rows held)) k lt))
        (row_of (IsSpanned p M) (reverse (named rows held)) k (each_named (IsSpanned p M) from.outside) lt n key);
    combined = λ n F key all. each_named _ (from.combined n F key all);
  }

-- ---- what the code reads and makes
pub column_below :
    (p inputs : ℕ) (rows : List RowShown) (leads : List ℕ) (held : List (Option ℕ)) (pending : List ℕ)
    → AreBetween p (length held) inputs rows leads held pending
    → (items : List ℕ) → items ≡ pending → (i : ℕ) → i < length items → (x : ℕ) → x ≡ get_or leads (get_or items i 0) x → x < length held
column_below p inputs rows leads held pending h items same i lt x is =
    let k = get_or items i 0 in
    let all : Each (λ m. m < length rows) items = subst (Each (λ m. m < length rows)) (sym same) h.known in
    let known : k < length rows = Each_at (λ m. m < length rows) items i k all lt (get_or_default items i 0 k lt) in
    let lead : x ≡ lead_column rows k = is ∙ ap (λ ls. get_or ls k x) h.ready.known ∙ get_or-map (λ (r : RowShown). first_column r.entries) rows k no_row x known in
    let below = lead_below p (length held) inputs rows h.ready.monic k known in
    omega arith

pub leads_push :
    (rows : List RowShown) (i : ℕ) (r : RowShown) (lead : ℕ)
    → i < length rows → r ≡ get_or rows i r → lead ≡ first_column r.entries → row_leads_of (take i rows) ++ lead ∷ [] ≡ row_leads_of (take (i + 1) rows)
leads_push rows i r lead lt is e =
    ap (λ x. row_leads_of (take i rows) ++ x ∷ []) e ∙ sym (map-append (λ (x : RowShown). first_column x.entries) (take i rows) (r ∷ []))
    ∙ ap row_leads_of (sym (take_item rows i r lt is))

pub range_push : (n m : ℕ) → m ≡ n → range_with_len 0 n ++ m ∷ [] ≡ range_with_len 0 (n + 1)
range_push n m e =
    ap (λ x. range_with_len 0 n ++ x ∷ []) e ∙ ap (λ xs. xs ++ n ∷ []) (sym (map-id (range_with_len 0 n)))
    ∙ sym (map-range_with_len_more (λ x. x) 0 n n (omega arith)) ∙ map-id (range_with_len 0 (n + 1))

-- what a call answers, over equal lists
pub pass_read :
    (p inputs : ℕ) (rows' rows : List RowShown) (held' held : List (Option ℕ)) (pending' pending : List ℕ) (words : List (Option ℕ)) (left : List Left)
    → rows' ≡ rows → held' ≡ held → pending' ≡ pending
    → IsPass p (length held') inputs rows' held' pending' words left → IsPass p (length held) inputs rows held pending words left
pass_read p inputs rows' rows held' held pending' pending words left r h k pass =
    subst (λ ks. IsPass p (length held) inputs rows held ks words left) k
    (subst₂ (λ rs hs. IsPass p (length hs) inputs rs hs pending' words left) r h pass)

pub between_read :
    (p columns inputs : ℕ) (rows' rows : List RowShown) (leads : List ℕ) (held' held : List (Option ℕ)) (pending' pending : List ℕ)
    → rows' ≡ rows → leads ≡ row_leads_of rows → held' ≡ held → pending' ≡ pending
    → AreBetween p columns inputs rows (row_leads_of rows) held pending → AreBetween p columns inputs rows' leads held' pending'
between_read p columns inputs rows' rows leads held' held pending' pending r l h k between =
    subst₂ (λ rs ls. AreBetween p columns inputs rs ls held' pending') (sym r) (sym l)
    (subst₂ (λ hs ks. AreBetween p columns inputs rows (row_leads_of rows) hs ks) (sym h) (sym k) between)

pub from_read :
    (p : ℕ) (M rows' rows : List RowShown) (held' held : List (Option ℕ)) (pending' pending : List ℕ)
    → rows' ≡ rows → held' ≡ held → pending' ≡ pending → AreFrom p M rows held pending → AreFrom p M rows' held' pending'
from_read p M rows' rows held' held pending' pending r h k from =
    subst (λ rs. AreFrom p M rs held' pending') (sym r) (subst₂ (λ hs ks. AreFrom p M rows hs ks) (sym h) (sym k) from)

pub room_read :
    (columns before : ℕ) (rows' rows : List RowShown) (pending' pending : List ℕ)
    → rows' ≡ rows → pending' ≡ pending → columns_behind columns rows pending < before → columns_behind columns rows' pending' < before
room_read columns before rows' rows pending' pending r k less = subst₂ (λ rs ks. columns_behind columns rs ks < before) (sym r) (sym k) less

-- one row more is taken out
module _ (R : List RowShown) (held : List (Option ℕ)) (past : ℕ) (lt : past < length held) (fits : LeadsFit (row_leads_of R) held) where
  here : drop (length held - (past + 1)) held ≡ get_or held (length held - 1 - past) None ∷ drop (length held - past) held
  here =
      let at : length held - (past + 1) ≡ length held - 1 - past = omega arith in
      let next : suc (length held - (past + 1)) ≡ length held - past = omega arith in
      drop-cons held (length held - (past + 1)) None (omega arith)
      ∙ ap (λ j. get_or held j None ∷ drop (suc (length held - (past + 1))) held) at ∙ ap (λ j. get_or held (length held - 1 - past) None ∷ drop j held) next

  pub taken_none :
      (found : List RowShown) → found ≡ reverse (named R (drop (length held - past) held)) → get_or held (length held - 1 - past) None ≡ None
      → found ≡ reverse (named R (drop (length held - (past + 1)) held))
  taken_none found listed e = listed ∙ ap (λ xs. reverse (named R xs)) (sym (here ∙ ap (λ w. w ∷ drop (length held - past) held) e))

  pub taken_fit : (k : ℕ) → get_or held (length held - 1 - past) None ≡ Some k → (k < length R) × (lead_column R k ≡ length held - 1 - past)
  taken_fit k e =
      let f = fits (length held - 1 - past) k (slice_get-get_or held (length held - 1 - past) None (omega arith) ∙ ap (λ w. Some w) e) in
      let l : k < length R = omega (arith, f.0, length-map R (λ (r : RowShown). first_column r.entries)) in
      (l, sym (lead_at R k l) ∙ f.1)

  module _ (k : ℕ) (e : get_or held (length held - 1 - past) None ≡ Some k) (rows found : List RowShown)
      (count : length rows ≡ length R) (kept : (j : ℕ) → lead_column R j < length held - past → shown_row_at rows j ≡ shown_row_at R j) where
    pub taken_found :
        (r : RowShown) → found ≡ reverse (named R (drop (length held - past) held)) → r ≡ get_or rows k r
        → found ++ r ∷ [] ≡ reverse (named R (drop (length held - (past + 1)) held))
    taken_found r listed is =
        let N = named R (drop (length held - past) held) in
        let f = taken_fit k e in
        let same : r ≡ shown_row_at R k = is ∙ get_or_default rows k r no_row (omega (arith, f.0, count)) ∙ kept k (omega (arith, f.1)) in
        ap (λ xs. xs ++ r ∷ []) listed ∙ ap (λ x. reverse N ++ x ∷ []) same ∙ sym (reverse-append (shown_row_at R k ∷ []) N)
        ∙ ap (λ xs. reverse (named R xs)) (sym (here ∙ ap (λ w. w ∷ drop (length held - past) held) e))

    pub taken_kept :
        (none : RowShown) (j : ℕ) → lead_column R j < length held - (past + 1) → shown_row_at (set rows k none) j ≡ shown_row_at R j
    taken_kept none j less =
        let f = taken_fit k e in
        get_or-set_other rows k j none no_row (λ same. (let q : lead_column R j ≡ lead_column R k = ap (lead_column R) same in omega (arith, f.1)))
        ∙ kept j (omega arith)

pub taken_read : (rows : List RowShown) (k : ℕ) (r x : RowShown) → r ≡ x → x ≡ get_or rows k x → r ≡ get_or rows k r
taken_read rows k r x same is = same ∙ is ∙ ap (get_or rows k) (sym same)
