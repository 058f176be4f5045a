-- Places of rows when others leave in turn
use Rattle.std.specs.Prelude.{None, Option, Some, is_some, nat_eq}
use Rattle.std.proofs.Common.{Bool, List, [], ap, append-nil, arith, cond, eq-eqb, eqb-true, false, get_or, inl, inr, le-ltb, length, lt-ltb, ne_eqb}
use Rattle.std.proofs.Common.{not, refl, subst, suc, sym, take, true, true≢false, zero, ℕ, ◌++◌, ◌+◌, ◌-◌, ◌<◌, ◌==◌, ◌∙◌, ◌∷◌, ◌≡◌, ◌≤◌, ◌⊎◌}
use Rattle.std.proofs.lemmas.Bool.{cases_order, not-false, not-true}
use Rattle.std.proofs.lemmas.Bool.Decides.{nat_tests}
use Rattle.std.proofs.lemmas.List.{append_assoc, get_or_append_left, get_or_past, get_or_push, length-take, length_push, take_more}
use Rattle.minimal_laws.proofs.Rows.{close, skip}
use Rattle.minimal_laws.specs.Cancellation.{remove_at}
use Rattle.term_lists.specs.Rings.{ring_comparison}
use Rattle.term_lists.specs.Vectors.{IsVectorOver, sum_of}
use Rattle.term_lists.specs.declared.key.Key.{Key as CodeKey}
use Rattle.term_lists.specs.declared.ring.Ring.{Ring}
use Rattle.column_passes.specs.Passing.{LeaveNumbered, add_index, indices_in_turn}
use Rattle.column_passes.specs.Placing.{ArePlacesAfter, IsPlacePut, all_removed, keep_at, place_after, place_told, placed, put_at, without_all}
use Rattle.column_passes.specs.declared.one_pass.Met.{Met}
use Rattle.column_passes.specs.declared.placing.Leaving.{Leaving}
use Rattle.column_passes.proofs.Lowering.{low, vector_without_row, without_sum, without_terms}
use Rattle.column_passes.proofs.Turning.{is_there, place_append, place_skip, skip_all, skip_all_below, taken_out, then_after}

abbrev Terms : Type 0
Terms = List (CodeKey × ℕ)

-- a row before this one, this one, and one behind it
pub place_below : (rows : List ℕ) (r q : ℕ) → q < r → place_after (r ∷ rows) q ≡ place_after rows q
place_below rows r q lt =
    ap (λ b. cond b None (place_after rows (close r q))) (ne_eqb q r (λ e. omega (arith, e, lt)))
    ∙ ap (λ b. place_after rows (cond b q (q - 1))) (lt-ltb q r lt)

pub place_at : (rows : List ℕ) (r q : ℕ) → q ≡ r → place_after (r ∷ rows) q ≡ None
place_at rows r q e = ap (λ b. cond b None (place_after rows (close r q))) (eq-eqb q r e)

pub place_above : (rows : List ℕ) (r q : ℕ) → r ≤ q → place_after (r ∷ rows) (q + 1) ≡ place_after rows q
place_above rows r q le =
    let k : (q + 1) - 1 ≡ q = omega arith in
    ap (λ b. cond b None (place_after rows (close r (q + 1)))) (ne_eqb (q + 1) r (λ e. omega (arith, e, le)))
    ∙ ap (λ b. place_after rows (cond b (q + 1) ((q + 1) - 1))) (le-ltb (q + 1) r (omega (arith, le))) ∙ ap (place_after rows) k

-- ---- tables that tell them
told_inside : (l : Leaving) (q : ℕ) → q < length l.places.items → place_told l q ≡ get_or l.places.items q None
told_inside l q lt = ap (λ b. cond b (get_or l.places.items q None) (Some (q - l.count))) (lt-ltb q (length l.places.items) lt)

pub told_behind : (l : Leaving) (q : ℕ) → length l.places.items ≤ q → place_told l q ≡ Some (q - l.count)
told_behind l q le = ap (λ b. cond b (get_or l.places.items q None) (Some (q - l.count))) (le-ltb q (length l.places.items) le)

-- those of an empty table
pub told_none : (l : Leaving) → l.places.items ≡ [] → l.count ≡ 0 → ArePlacesAfter [] l
told_none l e none q =
    told_behind l q (let k : length l.places.items ≡ 0 = ap length e in omega (arith, k))
    ∙ ap Some (let k : q - l.count ≡ q - 0 = ap (λ z. q - z) none in omega (arith, k))

module _ (leaves : Bool) (old new : Leaving) (put : IsPlacePut leaves old new) where
  pub put_length : length new.places.items ≡ length old.places.items + 1
  put_length = ap length put.0 ∙ length_push old.places.items _

  told_before : (q : ℕ) → q < length old.places.items → place_told new q ≡ place_told old q
  told_before q lt =
      told_inside new q (let k = put_length in omega (arith, lt, k)) ∙ ap (λ z. get_or z q None) put.0
      ∙ get_or_append_left old.places.items _ None q lt ∙ sym (told_inside old q lt)

  told_here : (q : ℕ) → q ≡ length old.places.items → place_told new q ≡ cond leaves None (Some (length old.places.items - old.count))
  told_here q e =
      told_inside new q (let k = put_length in omega (arith, e, k)) ∙ ap (λ z. get_or z q None) put.0
      ∙ get_or_push old.places.items _ None q (sym e)

  told_after : (q : ℕ) → length old.places.items < q → place_told new q ≡ Some (q - cond leaves (old.count + 1) old.count)
  told_after q lt = told_behind new q (let k = put_length in omega (arith, lt, k)) ∙ ap (λ z. Some (q - z)) put.1

-- a number that stays
pub put_stays : (old new : Leaving) → IsPlacePut false old new → (q : ℕ) → place_told new q ≡ place_told old q
put_stays old new put q = go (cases_order q (length old.places.items))
  where
    go : (q ≡ length old.places.items) ⊎ ((q < length old.places.items) ⊎ (length old.places.items < q)) → place_told new q ≡ place_told old q
    go (inl e) =
        told_here false old new put q e ∙ ap (λ z. Some (z - old.count)) (sym e) ∙ sym (told_behind old q (omega (arith, e)))
    go (inr (inl lt)) = told_before false old new put q lt
    go (inr (inr gt)) = told_after false old new put q gt ∙ sym (told_behind old q (omega (arith, gt)))

-- one that leaves
module _ (rows : List ℕ) (old new : Leaving) (bound : old.count ≤ length old.places.items) (put : IsPlacePut true old new) (h : ArePlacesAfter rows old) where
  abbrev next : ℕ
  next = length old.places.items - old.count

  next_is : place_after rows (length old.places.items) ≡ Some (length old.places.items - old.count)
  next_is = sym (h (length old.places.items)) ∙ told_behind old (length old.places.items) (omega arith)

  -- those before it have places below its own
  below_next : (q p : ℕ) → q < length old.places.items → place_after rows q ≡ Some p → p < length old.places.items - old.count
  below_next q p lt e =
      let a = place_skip rows q p e in
      let b = place_skip rows (length old.places.items) next next_is in
      skip_all_below rows p next (omega (arith, a, b, lt))

  pub put_leaves : ArePlacesAfter (rows ++ (length old.places.items - old.count) ∷ []) new
  put_leaves q = go (cases_order q (length old.places.items)) ∙ sym (place_append rows ((length old.places.items - old.count) ∷ []) q)
    where
      before : (place : Option ℕ) → place_after rows q ≡ place → q < length old.places.items
          → place ≡ then_after place ((length old.places.items - old.count) ∷ [])
      before None e lt = refl
      before (Some p) e lt = sym (place_below [] next p (below_next q p lt e))

      go :
          (q ≡ length old.places.items) ⊎ ((q < length old.places.items) ⊎ (length old.places.items < q))
          → place_told new q ≡ then_after (place_after rows q) ((length old.places.items - old.count) ∷ [])
      go (inl e) =
          told_here true old new put q e ∙ sym (place_at [] next next refl)
          ∙ ap (λ z. then_after z (next ∷ [])) (sym next_is ∙ ap (place_after rows) (sym e))
      go (inr (inl lt)) =
          told_before true old new put q lt ∙ h q ∙ before (place_after rows q) refl lt
      go (inr (inr gt)) =
          let k : q - old.count ≡ (q - (old.count + 1)) + 1 = omega (arith, gt, bound) in
          told_after true old new put q gt
          ∙ sym (place_above [] next (q - (old.count + 1)) (omega (arith, gt, bound)))
          ∙ ap (λ z. place_after (next ∷ []) z) (sym k)
          ∙ ap (λ z. then_after z (next ∷ [])) (sym (told_behind old q (omega (arith, gt))) ∙ h q)

-- the place that is told for the number put
pub put_told : (leaves : Bool) (old new : Leaving) → IsPlacePut leaves old new → (q : ℕ) → q ≡ length old.places.items → place_told new q ≡ None
    → leaves ≡ true
put_told true old new put q e none = refl
put_told false old new put q e none = absurd (true≢false (ap is_there (sym (told_here false old new put q e) ∙ none)))

-- ---- how many leave
pub none_leave : (rows : List ℕ) (l : Leaving) → ArePlacesAfter rows l → l.count ≡ 0 → rows ≡ []
none_leave [] l h none = refl
none_leave (r ∷ rows) l h none =
    let q = length l.places.items + r in
    let told : place_after rows q ≡ Some (q + 1) =
    sym (place_above rows r q (omega arith)) ∙ sym (h (q + 1)) ∙ told_behind l (q + 1) (omega arith)
    ∙ ap Some (let k : (q + 1) - l.count ≡ q + 1 = omega (arith, none) in k)
    in
    let up = skips_up rows (q + 1) in
    let at = place_skip rows q (q + 1) told in
    absurd (omega (arith, up, at))
  where
    skips_up : (rows : List ℕ) (i : ℕ) → i ≤ skip_all rows i
    skips_up [] i = omega arith
    skips_up (c ∷ rows) i = let a = skips_up rows i in let b = skip_up c (skip_all rows i) in omega (arith, a, b)
      where
        skip_up : (c i : ℕ) → i ≤ skip c i
        skip_up c i = grind (arith, nat_tests)

pub some_leave : (rows : List ℕ) (l : Leaving) → ArePlacesAfter rows l → 0 < l.count → 0 < length rows
some_leave [] l h some =
    let q = length l.places.items + l.count in
    let told : q ≡ q - l.count = ap taken_out (sym (h q) ∙ told_behind l q (omega arith)) in
    absurd (omega (arith, told, some))
some_leave (r ∷ rows) l h some = omega arith

-- ---- rows that leave since they have a number
pub numbered_start : (l : Leaving) → l.places.items ≡ [] → l.count ≡ 0 → LeaveNumbered [] l
numbered_start l e none = record {
  rows = [];
  turn = told_none l e none;
  leave = λ q ne. absurd (ne (get_or_past [] q 18446744073709551615 (omega arith)));
  stay = λ q is no. true≢false (ap is_there (sym (told_none l e none q) ∙ no));
}

module _ (numbers : List ℕ) (x : ℕ) (leaves : Bool) (old new : Leaving) (count : length old.places.items ≡ length numbers)
    (bound : old.count ≤ length old.places.items) (put : IsPlacePut leaves old new) (yes : leaves ≡ true → x ≡ 18446744073709551615 → ⊥)
    (no : leaves ≡ false → x ≡ 18446744073709551615) (h : LeaveNumbered numbers old) where
  abbrev none : ℕ
  none = 18446744073709551615

  turn_more : (b : Bool) → IsPlacePut b old new → (rows : List ℕ) × ArePlacesAfter rows new
  turn_more true is = (h.rows ++ (length old.places.items - old.count) ∷ [], put_leaves h.rows old new bound is h.turn)
  turn_more false is = (h.rows, λ q. put_stays old new is q ∙ h.turn q)

  leave_more : (q : ℕ) → (get_or (numbers ++ x ∷ []) q 18446744073709551615 ≡ 18446744073709551615 → ⊥) → place_told new q ≡ None
  leave_more q ne = go leaves put no (cases_order q (length numbers))
    where
      go :
          (t : Bool) → IsPlacePut t old new → (t ≡ false → x ≡ 18446744073709551615)
          → (q ≡ length numbers) ⊎ ((q < length numbers) ⊎ (length numbers < q)) → place_told new q ≡ None
      go t put' no' (inr (inl lt)) =
          told_before t old new put' q (omega (arith, lt, count))
          ∙ h.leave q (λ e. ne (get_or_append_left numbers (x ∷ []) none q lt ∙ e))
      go t put' no' (inr (inr gt)) =
          let long = length_push numbers x in
          absurd (ne (get_or_past (numbers ++ x ∷ []) q none (omega (arith, gt, long))))
      go true put' no' (inl e) = told_here true old new put' q (e ∙ sym count)
      go false put' no' (inl e) = absurd (ne (get_or_push numbers x none q (sym e) ∙ no' refl))

  stay_more : (q : ℕ) → get_or (numbers ++ x ∷ []) q 18446744073709551615 ≡ 18446744073709551615 → place_told new q ≡ None → ⊥
  stay_more q there told = go (cases_order q (length numbers))
    where
      go : (q ≡ length numbers) ⊎ ((q < length numbers) ⊎ (length numbers < q)) → ⊥
      go (inl e) = yes (put_told leaves old new put q (e ∙ sym count) told) (sym (get_or_push numbers x none q (sym e)) ∙ there)
      go (inr (inl lt)) =
          h.stay q (sym (get_or_append_left numbers (x ∷ []) none q lt) ∙ there) (sym (told_before leaves old new put q (omega (arith, lt, count))) ∙ told)
      go (inr (inr gt)) = true≢false (ap is_there (sym (told_after leaves old new put q (omega (arith, gt, count))) ∙ told))

  pub numbered_more : LeaveNumbered (numbers ++ x ∷ []) new
  numbered_more =
      let t = turn_more leaves put in
      record { rows = t.0; turn = t.1; leave = leave_more; stay = stay_more }

pub numbered_step :
    (numbers : List ℕ) (i : ℕ) (old new : Leaving) → i < length numbers → length old.places.items ≡ i → old.count ≤ length old.places.items
    → IsPlacePut (not (get_or numbers i 0 == 18446744073709551615)) old new → LeaveNumbered (take i numbers) old → LeaveNumbered (take (i + 1) numbers) new
numbered_step numbers i old new lt size bound put h =
    let x = get_or numbers i 0 in
    let long = length-take i numbers in
    subst (λ z. LeaveNumbered z new) (sym (take_more numbers i 0 lt))
    (numbered_more (take i numbers) x (not (x == 18446744073709551615)) old new (omega (arith, size, long, lt)) bound put
    (λ t e. true≢false (sym (eq-eqb x 18446744073709551615 e) ∙ not-true _ t)) (λ t. eqb-true x 18446744073709551615 (not-false _ t)) h)

-- ---- columns that leave since they have a choice
-- the columns before the rest were met
pub record AreIndicesTo (met rest : List Met) (leaving : Leaving) : Type 0 where
  pub indices : List ℕ
  pub turn : ArePlacesAfter indices leaving
  pub all : indices ++ indices_in_turn (length leaving.places.items - leaving.count) rest ≡ indices_in_turn 0 met

pub indices_start : (met rest : List Met) (l : Leaving) → rest ≡ met → l.places.items ≡ [] → l.count ≡ 0 → AreIndicesTo met rest l
indices_start met rest l er e none =
    let size : length l.places.items ≡ 0 = ap length e in
    let k : length l.places.items - l.count ≡ 0 = omega (arith, size) in
    record { indices = []; turn = told_none l e none; all = ap (λ z. indices_in_turn z rest) k ∙ ap (indices_in_turn 0) er }

pub indices_more :
    (met rest rest' : List Met) (m : Met) (leaves : Bool) (old new : Leaving) → rest ≡ m ∷ rest' → old.count ≤ length old.places.items
    → IsPlacePut leaves old new → leaves ≡ is_some m.choice → AreIndicesTo met rest old → AreIndicesTo met rest' new
indices_more met rest rest' m leaves old new e bound put is h =
    go m.choice (subst (λ z. IsPlacePut z old new) is put) (sym (ap (λ z. h.indices ++ indices_in_turn (length old.places.items - old.count) z) e) ∙ h.all)
  where
    go :
        (choice : Option (ℕ × ℕ)) → IsPlacePut (is_some choice) old new
        → h.indices ++ add_index choice (length old.places.items - old.count) (λ i. indices_in_turn i rest') ≡ indices_in_turn 0 met
        → AreIndicesTo met rest' new
    go None put' all =
        let size = put_length false old new put' in
        let count : new.count ≡ old.count = put'.1 in
        let next : length new.places.items - new.count ≡ (length old.places.items - old.count) + 1 = omega (arith, size, count, bound) in
        record {
          indices = h.indices;
          turn = λ q. put_stays old new put' q ∙ h.turn q;
          all = ap (λ z. h.indices ++ indices_in_turn z rest') next ∙ all;
        }
    go (Some a) put' all =
        let size = put_length true old new put' in
        let count : new.count ≡ old.count + 1 = put'.1 in
        let next : length new.places.items - new.count ≡ length old.places.items - old.count = omega (arith, size, count, bound) in
        record {
          indices = h.indices ++ (length old.places.items - old.count) ∷ [];
          turn = put_leaves h.indices old new bound put' h.turn;
          all = append_assoc h.indices ((length old.places.items - old.count) ∷ []) (indices_in_turn (length new.places.items - new.count) rest')
              ∙ ap (λ z. h.indices ++ (length old.places.items - old.count) ∷ indices_in_turn z rest') next ∙ all;
        }

pub indices_end : (met rest : List Met) (l : Leaving) → rest ≡ [] → AreIndicesTo met rest l → ArePlacesAfter (indices_in_turn 0 met) l
indices_end met rest l e h =
    subst (λ z. ArePlacesAfter z l)
    (sym (append-nil h.indices) ∙ sym (ap (λ z. h.indices ++ indices_in_turn (length l.places.items - l.count) z) e) ∙ h.all) h.turn

-- ---- what stays in a list
-- the items with a place, of which this is the number of the first
abbrev pub staying : {X : Type 0} → (ℕ → Option ℕ) → ℕ → List X → List X
staying place i [] = []
staying place i (x ∷ xs) = keep_at (place i) x (staying place (i + 1) xs)

staying_same : {X : Type 0} (f g : ℕ → Option ℕ) (i : ℕ) (xs : List X) → ((q : ℕ) → f q ≡ g q) → staying f i xs ≡ staying g i xs
staying_same f g i [] e = refl
staying_same f g i (x ∷ xs) e = ap (λ z. keep_at z x (staying f (i + 1) xs)) (e i) ∙ ap (keep_at (g i) x) (staying_same f g (i + 1) xs e)

staying_moved : {X : Type 0} (f g : ℕ → Option ℕ) (i : ℕ) (xs : List X) → ((q : ℕ) → i ≤ q → f (q + 1) ≡ g q) → staying f (i + 1) xs ≡ staying g i xs
staying_moved f g i [] e = refl
staying_moved f g i (x ∷ xs) e =
    ap (λ z. keep_at z x (staying f ((i + 1) + 1) xs)) (e i (omega arith))
    ∙ ap (keep_at (g i) x) (staying_moved f g (i + 1) xs (λ q le. e q (omega (arith, le))))

staying_all : {X : Type 0} (i : ℕ) (xs : List X) → staying (place_after []) i xs ≡ xs
staying_all i [] = refl
staying_all i (x ∷ xs) = ap (λ z. x ∷ z) (staying_all (i + 1) xs)

staying_removed :
    {X : Type 0} (rows : List ℕ) (r i j : ℕ) (xs : List X) → r ≡ i + j → staying (place_after rows) i (remove_at j xs) ≡ staying (place_after (r ∷ rows)) i xs
staying_removed rows r i j [] e = refl
staying_removed rows r i zero (x ∷ xs) e =
    sym (ap (λ z. keep_at z x (staying (place_after (r ∷ rows)) (i + 1) xs)) (place_at rows r i (omega (arith, e)))
    ∙ staying_moved (place_after (r ∷ rows)) (place_after rows) i xs (λ q le. place_above rows r q (omega (arith, e, le))))
staying_removed rows r i (suc j) (x ∷ xs) e =
    ap (keep_at (place_after rows i) x) (staying_removed rows r (i + 1) j xs (omega (arith, e)))
    ∙ sym (ap (λ z. keep_at z x (staying (place_after (r ∷ rows)) (i + 1) xs)) (place_below rows r i (omega (arith, e))))

staying_removed_all : {X : Type 0} (rows : List ℕ) (xs : List X) → all_removed rows xs ≡ staying (place_after rows) 0 xs
staying_removed_all [] xs = sym (staying_all 0 xs)
staying_removed_all (r ∷ rows) xs = staying_removed_all rows (remove_at r xs) ∙ staying_removed rows r 0 r xs (omega arith)

keep_before : {X : Type 0} (place : Option ℕ) (x : X) (xs : List X) → keep_at place x xs ≡ keep_at place x [] ++ xs
keep_before None x xs = refl
keep_before (Some q) x xs = refl

pub staying_more :
    {X : Type 0} (place : ℕ → Option ℕ) (i : ℕ) (x : X) (all old new rest rest' : List X) → rest ≡ x ∷ rest'
    → new ≡ old ++ keep_at (place i) x [] → old ++ staying place i rest ≡ all → new ++ staying place (i + 1) rest' ≡ all
staying_more place i x all old new rest rest' e en h =
    ap (λ z. z ++ staying place (i + 1) rest') en ∙ append_assoc old (keep_at (place i) x []) (staying place (i + 1) rest')
    ∙ ap (λ z. old ++ z) (sym (keep_before (place i) x (staying place (i + 1) rest'))) ∙ sym (ap (λ z. old ++ staying place i z) e) ∙ h

pub staying_end :
    {X : Type 0} (rows : List ℕ) (l : Leaving) (i : ℕ) (all kept rest : List X) → ArePlacesAfter rows l → rest ≡ []
    → kept ++ staying (place_told l) i rest ≡ staying (place_told l) 0 all → kept ≡ all_removed rows all
staying_end rows l i all kept rest h e k =
    sym (append-nil kept) ∙ sym (ap (λ z. kept ++ staying (place_told l) i z) e) ∙ k
    ∙ staying_same (place_told l) (place_after rows) 0 all h ∙ sym (staying_removed_all rows all)

-- ---- the terms at their places
put_before : (place : Option ℕ) (t : CodeKey × ℕ) (v : Terms) → put_at place t v ≡ put_at place t [] ++ v
put_before None t v = refl
put_before (Some q) t v = refl

pub placed_more :
    (rows : List ℕ) (all old new rest rest' : Terms) (t : CodeKey × ℕ) → old ++ placed rows rest ≡ all → rest ≡ t ∷ rest'
    → new ≡ old ++ placed rows (t ∷ []) → new ++ placed rows rest' ≡ all
placed_more rows all old new rest rest' t h e en =
    ap (λ z. z ++ placed rows rest') en ∙ append_assoc old (placed rows (t ∷ [])) (placed rows rest')
    ∙ ap (λ z. old ++ z) (sym (put_before (place_after rows t.0.position) t (placed rows rest'))) ∙ sym (ap (λ z. old ++ placed rows z) e) ∙ h

pub placed_end : (rows : List ℕ) (all old rest : Terms) → old ++ placed rows rest ≡ all → rest ≡ [] → old ≡ all
placed_end rows all old rest h e = sym (append-nil old) ∙ sym (ap (λ z. old ++ placed rows z) e) ∙ h

-- they are those without the rows in turn
abbrev pub left_terms : List ℕ → Terms → Terms
left_terms [] v = v
left_terms (r ∷ rows) v = left_terms rows (without_terms r v)

placed_none : (v : Terms) → placed [] v ≡ v
placed_none [] = refl
placed_none (t ∷ v) = ap (λ z. t ∷ z) (placed_none v)

put_low : (place : Option ℕ) (r : ℕ) (t : CodeKey × ℕ) (v : Terms) → put_at place t v ≡ put_at place (low r t) v
put_low None r t v = refl
put_low (Some q) r t v = refl

placed_first : (rows : List ℕ) (r : ℕ) (v : Terms) → placed (r ∷ rows) v ≡ placed rows (without_terms r v)
placed_first rows r [] = refl
placed_first rows r (t ∷ v) = go (nat_eq t.0.position r) (placed_first rows r v)
  where
    go :
        (b : Bool) → placed (r ∷ rows) v ≡ placed rows (without_terms r v)
        → put_at (cond b None (place_after rows (close r t.0.position))) t (placed (r ∷ rows) v) ≡ placed rows
        (cond b (without_terms r v) (low r t ∷ without_terms r v))
    go true e = e
    go false e = put_low (place_after rows (close r t.0.position)) r t (placed (r ∷ rows) v)
        ∙ ap (put_at (place_after rows (close r t.0.position)) (low r t)) e

pub placed_is : (rows : List ℕ) (v : Terms) → placed rows v ≡ left_terms rows v
placed_is [] v = placed_none v
placed_is (r ∷ rows) v = placed_first rows r v ∙ placed_is rows (without_terms r v)

pub left_sum : (n : ℕ) (rows : List ℕ) (v : Terms) → sum_of n (left_terms rows v) ≡ without_all rows (sum_of n v)
left_sum n [] v = refl
left_sum n (r ∷ rows) v = left_sum n rows (without_terms r v) ∙ ap (without_all rows) (without_sum n r v)

pub left_vector : (ring : Ring) (rows : List ℕ) (v : Terms) → IsVectorOver ring (ring_comparison ring) v
    → IsVectorOver ring (ring_comparison ring) (left_terms rows v)
left_vector ring [] v h = h
left_vector ring (r ∷ rows) v h = left_vector ring rows (without_terms r v) (vector_without_row ring r v h)
