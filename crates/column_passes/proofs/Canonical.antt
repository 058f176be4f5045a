-- What is left of columns that are met in their order
use Rattle.std.specs.Prelude.{None, Option, Some, drop}
use Rattle.std.proofs.Common.{List, [], ap, append-nil, arith, get_or, length, map, refl, subst, suc, sym, zero, ℕ, ◌++◌, ◌+◌, ◌<◌, ◌∙◌, ◌∷◌, ◌≡◌}
use Rattle.std.proofs.lemmas.List.{append_assoc, get_or_append_left, get_or_default, length-map, map-append}
use Rattle.residues.proofs.Congruences.{IsCongruent_multiply, IsCongruent_of, IsCongruent_refl, IsCongruent_trans}
use Rattle.monomials.specs.Exponents.{unit}
use Rattle.formal_sums.proofs.Linear.{linear_same}
use Rattle.formal_sums.proofs.Sameness.{IsSame_refl, IsSame_sym, IsSame_trans}
use Rattle.formal_sums.specs.FormalSums.{Each, FormalSum, IsSame, coefficient}
use Rattle.minimal_laws.proofs.Rows.{linear_without_row}
use Rattle.minimal_laws.specs.Cancellation.{AreSameColumns, remove_at, without_row}
use Rattle.minimal_laws.specs.Minimal.{IsConstantAt}
use Rattle.betti_laws.proofs.Constants.{HasNoConstant}
use Rattle.term_lists.specs.Rings.{variables}
use Rattle.term_lists.specs.declared.ring.Ring.{Ring}
use Rattle.column_passes.specs.Passing.{AreFirstSteps, IsFirstStep, Pivot, add_choice, add_index, add_kept, add_place, applied, indices_in_turn}
use Rattle.column_passes.specs.Passing.{left_by, left_by_all, rows_in_turn}
use Rattle.column_passes.specs.Placing.{place_after, without_all}
use Rattle.column_passes.specs.Sorting.{numbers_from}
use Rattle.column_passes.specs.declared.one_pass.Met.{Met}
use Rattle.column_passes.proofs.Apart.{AreZeroBefore, free_row, grown_apart}
use Rattle.column_passes.proofs.Applying.{constant_there, first_end, left_end, left_same, no_constant_at, no_constant_cleared, no_constant_zero}
use Rattle.column_passes.proofs.Lists.{all_append, all_map, drop_item}
use Rattle.column_passes.proofs.Reordering.{AreChosen, IsChosen, grown, pivots_after, through, through_end}
use Rattle.column_passes.proofs.Turning.{AreTurned, applied_turned, coefficient_left, constant_after, constant_before, free_place, no_constant_left}
use Rattle.column_passes.proofs.Turning.{place_skip, skip_all, skip_all_less, turned_end, turned_pivot}

-- ---- lists
remove_between : {X : Type 0} (xs ys : List X) (y : X) (c : ℕ) → c ≡ length xs → remove_at c (xs ++ y ∷ ys) ≡ xs ++ ys
remove_between [] ys y zero e = refl
remove_between [] ys y (suc c) e = absurd (omega (arith, e))
remove_between (x ∷ xs) ys y zero e = absurd (omega (arith, e))
remove_between (x ∷ xs) ys y (suc c) e = ap (λ z. x ∷ z) (remove_between xs ys y c (omega (arith, e)))

get_between : {X : Type 0} (xs ys : List X) (y d : X) (c : ℕ) → c ≡ length xs → get_or (xs ++ y ∷ ys) c d ≡ y
get_between [] ys y d zero e = refl
get_between [] ys y d (suc c) e = absurd (omega (arith, e))
get_between (x ∷ xs) ys y d zero e = absurd (omega (arith, e))
get_between (x ∷ xs) ys y d (suc c) e = get_between xs ys y d c (omega (arith, e))

length_between : {X : Type 0} (xs ys : List X) (y : X) → length xs < length (xs ++ y ∷ ys)
length_between [] ys y = omega arith
length_between (x ∷ xs) ys y = let e = length_between xs ys y in omega (arith, e)

length_end : {X : Type 0} (xs : List X) (x : X) → length (xs ++ x ∷ []) ≡ length xs + 1
length_end [] x = omega arith
length_end (y ∷ xs) x = let e = length_end xs x in omega (arith, e)

pub same_first : {n : ℕ} (p : ℕ) (F H : List (FormalSum n)) (x y : FormalSum n) → IsSame p x y → AreSameColumns p F H → AreSameColumns p (x ∷ F) (y ∷ H)
same_first p F H x y e h = record { count = ap suc h.count; each = at }
  where
    at : (i : ℕ) → IsSame p (get_or (x ∷ F) i []) (get_or (y ∷ H) i [])
    at zero = e
    at (suc i) = h.each i

pub without_all_same : {n p : ℕ} → 0 < p → (rows : List ℕ) (v w : FormalSum n) → IsSame p v w → IsSame p (without_all rows v) (without_all rows w)
without_all_same pos [] v w e = e
without_all_same pos (r ∷ rows) v w e = without_all_same pos rows (without_row r v) (without_row r w) (linear_same pos (linear_without_row r) e)

-- a column after these pivots, without these rows
abbrev pub left : (ring : Ring) → List (Pivot (variables ring)) → List ℕ → FormalSum (variables ring) → FormalSum (variables ring)
left ring T rows v = without_all rows (through ring.modulus.value T v)

-- after the columns before i: T are the pivots, whose rows keep their numbers, P the same in turn, and K the columns that are kept
pub record AreLeft (ring : Ring) (F : List (FormalSum (variables ring))) (i : ℕ) (T : List (Pivot (variables ring))) (rows : List ℕ)
    (P : List (Pivot (variables ring)))
    (K : List (FormalSum (variables ring))) : Type 0 where
  pub firsts : AreFirstSteps ring F P
  pub same : AreSameColumns ring.modulus.value (left_by_all ring P F) (map (left ring T rows) (K ++ drop i F))
  pub none : Each (λ v. HasNoConstant ring.modulus.value (through ring.modulus.value T v)) K
  pub turned : AreTurned [] T rows
  pub apart : AreZeroBefore ring.modulus.value [] T
  pub rows_are : map (λ (s : Pivot (variables ring)). s.row) P ≡ rows

module _ (ring : Ring) (pos : 0 < ring.modulus.value) (F : List (FormalSum (variables ring))) where
  abbrev V : Type 0
  V = FormalSum (variables ring)

  pub none_left :
      (T : List (Pivot (variables ring))) (rows : List ℕ) (K : List (FormalSum (variables ring)))
      → Each (λ v. HasNoConstant ring.modulus.value (through ring.modulus.value T v)) K
      → (c : ℕ) → HasNoConstant ring.modulus.value (get_or (map (left ring T rows) K) c [])
  none_left T rows [] h zero = no_constant_zero ring.modulus.value
  none_left T rows [] h (suc c) = no_constant_zero ring.modulus.value
  none_left T rows (v ∷ K) h zero = no_constant_left ring.modulus.value rows (through ring.modulus.value T v) h.0
  none_left T rows (v ∷ K) h (suc c) = none_left T rows K h.1 c

  module _ (i : ℕ) (T : List (Pivot (variables ring))) (rows : List ℕ) (P : List (Pivot (variables ring))) (K : List (FormalSum (variables ring)))
      (h : AreLeft ring F i T rows P K) (v : FormalSum (variables ring)) (lt : i < length F) (is : v ≡ get_or F i v) where
    abbrev R : List (FormalSum (variables ring))
    R = drop (i + 1) F

    abbrev All : List (FormalSum (variables ring))
    All = left_by_all ring P F

    rest : K ++ drop i F ≡ K ++ v ∷ R
    rest = ap (λ z. K ++ z) (drop_item F i v lt is)

    kept_more : HasNoConstant ring.modulus.value (through ring.modulus.value T v) → AreLeft ring F (i + 1) T rows P (K ++ v ∷ [])
    kept_more none = record {
      firsts = h.firsts;
      same = subst (λ z. AreSameColumns ring.modulus.value All (map (left ring T rows) z)) (rest ∙ sym (append_assoc K (v ∷ []) R)) h.same;
      none = all_append _ K (v ∷ []) h.none (none, tt);
      turned = h.turned;
      apart = h.apart;
      rows_are = h.rows_are;
    }

    module _ (a : ℕ × ℕ) (k : IsChosen ring.modulus.value (Some a) (through ring.modulus.value T v)) where
      abbrev A : List (FormalSum (variables ring))
      A = map (left ring T rows) K

      abbrev B : List (FormalSum (variables ring))
      B = map (left ring T rows) (drop (i + 1) F)

      abbrev U : FormalSum (variables ring)
      U = left ring T rows v

      here : AreSameColumns ring.modulus.value (left_by_all ring P F) (A ++ U ∷ B)
      here = subst (AreSameColumns ring.modulus.value All) (ap (map (left ring T rows)) rest ∙ map-append (left ring T rows) K (v ∷ R)) h.same

      count : length K ≡ length A
      count = sym (length-map K (left ring T rows))

      place : (r : ℕ) × (place_after rows a.0 ≡ Some r)
      place = free_place T rows a.0 h.turned (free_row ring.modulus.value pos T v a.0 h.apart k.0)

      abbrev pub the_pivot : Pivot (variables ring)
      the_pivot = record { row = a.0; index = i; inverse = a.1; column = through ring.modulus.value T v }

      abbrev S : Pivot (variables ring)
      S = turned_pivot ring rows place.0 (length K) the_pivot

      abbrev T' : List (Pivot (variables ring))
      T' = T ++ the_pivot ∷ []

      abbrev rows' : List ℕ
      rows' = rows ++ place.0 ∷ []

      row : skip_all rows place.0 ≡ a.0
      row = place_skip rows a.0 place.0 place.1

      at_index : IsSame ring.modulus.value (get_or (left_by_all ring P F) (length K) []) U
      at_index = IsSame_trans (here.each (length K))
          (subst (λ z. IsSame ring.modulus.value (get_or (A ++ U ∷ B) (length K) []) z) (get_between A B U [] (length K) count)
          (IsSame_refl ring.modulus.value _))

      constant_here : IsConstantAt ring.modulus.value U place.0
      constant_here =
          constant_after ring.modulus.value rows place.0 (through ring.modulus.value T v)
          (subst (IsConstantAt ring.modulus.value (through ring.modulus.value T v)) (sym row) k.0)

      coefficient_here : coefficient U (place.0, unit (variables ring)) ≡ coefficient (through ring.modulus.value T v) (a.0, unit (variables ring))
      coefficient_here =
          coefficient_left rows place.0 (through ring.modulus.value T v) (unit (variables ring))
          ∙ ap (λ r. coefficient (through ring.modulus.value T v) (r, unit (variables ring))) row

      first_here : IsFirstStep ring (left_by_all ring P F) S
      first_here =
          let p = ring.modulus.value in
          record {
            inside = (let a = length_between A B U in let b = here.count in omega (arith, a, b, count));
            constant = constant_there p U (get_or All (length K) []) place.0 (IsSame_sym at_index) constant_here;
            first_column = λ b q lt c.
                no_constant_at p (get_or A b []) q (none_left T rows K h.none b)
                (subst (λ z. IsConstantAt p z q) (get_or_append_left A (U ∷ B) [] b (omega (arith, lt, count))) (constant_there p _ _ q (here.each b) c));
            first_row = λ q lt c.
                k.1 (skip_all rows q) (subst (λ z. skip_all rows q < z) row (skip_all_less rows q place.0 lt))
                (constant_before p rows q (through p T v) (constant_there p _ U q at_index c));
            column = at_index;
            inverse = IsCongruent_trans
                (IsCongruent_multiply (IsCongruent_refl p a.1)
                (IsCongruent_trans (at_index.by_key (place.0, unit (variables ring))) (IsCongruent_of p _ _ coefficient_here))) k.2;
          }

      after : (xs : List (FormalSum (variables ring))) → map (applied ring S) (map (left ring T rows) xs) ≡ map (left ring T' rows') xs
      after [] = refl
      after (x ∷ xs) =
          let one : applied ring S (left ring T rows x) ≡ left ring T' rows' x =
          applied_turned ring rows place.0 (length K) the_pivot (through ring.modulus.value T x) place.1
          ∙ ap (without_all rows') (sym (through_end ring.modulus.value pos T the_pivot x))
          in
          ap (λ y. y ∷ map (applied ring S) (map (left ring T rows) xs)) one ∙ ap (λ ys. left ring T' rows' x ∷ ys) (after xs)

      same_more : AreSameColumns ring.modulus.value (left_by_all ring (P ++ S ∷ []) F) (map (left ring T' rows') (K ++ drop (i + 1) F))
      same_more =
          let p = ring.modulus.value in
          let through_all : left_by ring S (A ++ U ∷ B) ≡ map (left ring T' rows') (K ++ R) =
          ap (map (applied ring S)) (remove_between A B U (length K) count ∙ sym (map-append (left ring T rows) K R)) ∙ after (K ++ R)
          in
          subst (λ z. AreSameColumns p z (map (left ring T' rows') (K ++ R))) (sym (left_end ring P S F))
          (subst (AreSameColumns p (left_by ring S All)) through_all (left_same ring pos S All (A ++ U ∷ B) here))

      pivot_more : AreLeft ring F (i + 1) T' rows' (P ++ S ∷ []) K
      pivot_more = record {
        firsts = first_end ring F P S h.firsts first_here;
        same = same_more;
        none = all_map _ _ K (λ x z. subst (HasNoConstant ring.modulus.value) (sym (through_end ring.modulus.value pos T the_pivot x))
            (no_constant_cleared ring.modulus.value a.0 a.1 (through ring.modulus.value T v) (through ring.modulus.value T x) z)) h.none;
        turned = turned_end [] T rows the_pivot place.0 h.turned place.1;
        apart = grown_apart ring.modulus.value pos (Some a) i v T h.apart k;
        rows_are = map-append (λ (s : Pivot (variables ring)). s.row) P (S ∷ []) ∙ ap (λ z. z ++ place.0 ∷ []) h.rows_are;
      }

pub tail : {X : Type 0} (xs ys : List X) (i : ℕ) (x : X) → drop i xs ≡ x ∷ ys → drop (i + 1) xs ≡ ys
tail [] ys zero x e = let q : 0 ≡ suc (length ys) = ap length e in absurd (omega (arith, q))
tail [] ys (suc i) x e = let q : 0 ≡ suc (length ys) = ap length e in absurd (omega (arith, q))
tail (z ∷ xs) ys zero x e = tail_of e
  where
    rest_of : {X : Type 0} → List X → List X
    rest_of [] = []
    rest_of (y ∷ ys) = ys

    tail_of : z ∷ xs ≡ x ∷ ys → xs ≡ ys
    tail_of e = ap rest_of e
tail (z ∷ xs) ys (suc i) x e = let k : suc i + 1 ≡ suc (i + 1) = omega arith in ap (λ j. drop j (z ∷ xs)) k ∙ tail xs ys i x e

pub head_of : {X : Type 0} (xs ys : List X) (i : ℕ) (x d : X) → drop i xs ≡ x ∷ ys → get_or xs i d ≡ x
head_of [] ys zero x d e = let q : 0 ≡ suc (length ys) = ap length e in absurd (omega (arith, q))
head_of [] ys (suc i) x d e = let q : 0 ≡ suc (length ys) = ap length e in absurd (omega (arith, q))
head_of {X} (z ∷ xs) ys zero x d e = ap first_of e
  where
    first_of : List X → X
    first_of [] = z
    first_of (y ∷ ys) = y
head_of (z ∷ xs) ys (suc i) x d e = head_of xs ys i x d e

-- ---- all columns
abbrev pub column_of : {n : ℕ} → List (FormalSum n) → ℕ → FormalSum n
column_of F c = get_or F c []

abbrev pub not_met : Met
not_met = record { column = []; since = 0; choice = None }

abbrev pub choice_at : List Met → ℕ → Option (ℕ × ℕ)
choice_at met c = (get_or met c not_met).choice

-- the kept columns
abbrev pub kept_of : {n : ℕ} → (ℕ → FormalSum n) → ℕ → List Met → List (FormalSum n)
kept_of F i [] = []
kept_of F i (m ∷ met) = add_kept m.choice (F i) (kept_of F (i + 1) met)

pub record Ends (ring : Ring) (F : List (FormalSum (variables ring))) (T : List (Pivot (variables ring))) (rows indices : List ℕ)
    (K : List (FormalSum (variables ring))) : Type 0 where
  pub pivots : List (Pivot (variables ring))
  pub kept_all : AreLeft ring F (length F) T rows pivots K
  pub indices_are : map (λ (s : Pivot (variables ring)). s.index) pivots ≡ indices

module _ (ring : Ring) (pos : 0 < ring.modulus.value) (F : List (FormalSum (variables ring))) (met : List Met) where
  pub canonical :
      (ms : List Met) (i : ℕ) (T : List (Pivot (variables ring))) (rows : List ℕ) (P : List (Pivot (variables ring)))
      (K : List (FormalSum (variables ring))) → drop i met ≡ ms
      → i + length ms ≡ length F → AreLeft ring F i T rows P K → AreChosen ring.modulus.value (column_of F) (choice_at met) T (numbers_from i (length ms))
      → Ends ring F (pivots_after ring.modulus.value (column_of F) (choice_at met) T (numbers_from i (length ms))) (rows_in_turn rows ms)
      (map (λ (s : Pivot (variables ring)). s.index) P ++ indices_in_turn (length K) ms) (K ++ kept_of (column_of F) i ms)
  canonical [] i T rows P K e size h k =
      let n : i ≡ length F = omega (arith, size) in
      record {
        pivots = P;
        kept_all = subst (AreLeft ring F (length F) T rows P) (sym (append-nil K)) (subst (λ z. AreLeft ring F z T rows P K) n h);
        indices_are = sym (append-nil (map (λ (s : Pivot (variables ring)). s.index) P));
      }
  canonical (m ∷ ms) i T rows P K e size h k =
      go m.choice (ap (λ (z : Met). z.choice) (head_of met ms i m not_met e)) k.0 k.1
      (λ T' rows' P' K' h' k'. canonical ms (i + 1) T' rows' P' K' (tail met ms i m e) (omega (arith, size)) h' k')
    where
      inside : i < length F
      inside = omega (arith, size)

      is : column_of F i ≡ get_or F i (column_of F i)
      is = get_or_default F i [] (column_of F i) inside

      go :
          (c : Option (ℕ × ℕ)) → choice_at met i ≡ c → IsChosen ring.modulus.value (choice_at met i) (through ring.modulus.value T (column_of F i))
          → AreChosen ring.modulus.value (column_of F) (choice_at met) (grown ring.modulus.value (choice_at met i) i (column_of F i) T)
          (numbers_from (i + 1) (length ms))
          → ((T' : List (Pivot (variables ring))) (rows' : List ℕ) (P' : List (Pivot (variables ring))) (K' : List (FormalSum (variables ring)))
          → AreLeft ring F (i + 1) T' rows' P' K' → AreChosen ring.modulus.value (column_of F) (choice_at met) T' (numbers_from (i + 1) (length ms))
          → Ends ring F (pivots_after ring.modulus.value (column_of F) (choice_at met) T' (numbers_from (i + 1) (length ms))) (rows_in_turn rows' ms)
          (map (λ (s : Pivot (variables ring)). s.index) P' ++ indices_in_turn (length K') ms) (K' ++ kept_of (column_of F) (i + 1) ms))
          → Ends ring F (pivots_after ring.modulus.value (column_of F) (choice_at met) (grown ring.modulus.value (choice_at met i) i (column_of F i) T)
          (numbers_from (i + 1) (length ms)))
          (rows_in_turn (add_choice c rows) ms)
          (map (λ (s : Pivot (variables ring)). s.index) P ++ add_index c (length K) (λ k. indices_in_turn k ms))
          (K ++ add_kept c (column_of F i) (kept_of (column_of F) (i + 1) ms))
      go None q c0 c1 more =
          let v = column_of F i in
          let c0' : IsChosen ring.modulus.value None (through ring.modulus.value T v) =
          subst (λ z. IsChosen ring.modulus.value z (through ring.modulus.value T v)) q c0 in
          let g : grown ring.modulus.value (choice_at met i) i v T ≡ T = ap (λ z. grown ring.modulus.value z i v T) q in
          let r = more T rows P (K ++ v ∷ []) (kept_more ring pos F i T rows P K h v inside is c0')
          (subst (λ z. AreChosen ring.modulus.value (column_of F) (choice_at met) z (numbers_from (i + 1) (length ms))) g c1) in
          let back = subst (λ z. Ends ring F (pivots_after ring.modulus.value (column_of F) (choice_at met) z (numbers_from (i + 1) (length ms)))
          (rows_in_turn rows ms)
          (map (λ (s : Pivot (variables ring)). s.index) P ++ indices_in_turn (length (K ++ v ∷ [])) ms)
          ((K ++ v ∷ []) ++ kept_of (column_of F) (i + 1) ms)) (sym g) r in
          subst (λ z. Ends ring F
          (pivots_after ring.modulus.value (column_of F) (choice_at met) (grown ring.modulus.value (choice_at met i) i v T)
          (numbers_from (i + 1) (length ms))) (rows_in_turn rows ms)
          (map (λ (s : Pivot (variables ring)). s.index) P ++ indices_in_turn z ms) (K ++ v ∷ kept_of (column_of F) (i + 1) ms)) (length_end K v)
          (subst (Ends ring F (pivots_after ring.modulus.value (column_of F) (choice_at met) (grown ring.modulus.value (choice_at met i) i v T)
          (numbers_from (i + 1) (length ms))) (rows_in_turn rows ms)
          (map (λ (s : Pivot (variables ring)). s.index) P ++ indices_in_turn (length (K ++ v ∷ [])) ms))
          (append_assoc K (v ∷ []) (kept_of (column_of F) (i + 1) ms)) back)
      go (Some a) q c0 c1 more =
          let v = column_of F i in
          let c0' : IsChosen ring.modulus.value (Some a) (through ring.modulus.value T v) =
          subst (λ z. IsChosen ring.modulus.value z (through ring.modulus.value T v)) q c0 in
          let g : grown ring.modulus.value (choice_at met i) i v T ≡ grown ring.modulus.value (Some a) i v T = ap (λ z. grown ring.modulus.value z i v T) q in
          let there = place ring pos F i T rows P K h v inside is a c0' in
          let S : Pivot (variables ring) = turned_pivot ring rows there.0 (length K)
          (record { row = a.0; index = i; inverse = a.1; column = through ring.modulus.value T v }) in
          let r = more (grown ring.modulus.value (Some a) i v T) (rows ++ there.0 ∷ []) (P ++ S ∷ []) K
          (pivot_more ring pos F i T rows P K h v inside is a c0')
          (subst (λ z. AreChosen ring.modulus.value (column_of F) (choice_at met) z (numbers_from (i + 1) (length ms))) g c1) in
          let e1 : rows ++ there.0 ∷ [] ≡ add_choice (Some a) rows = sym (ap (λ z. add_place z rows) there.1) in
          let e2 : map (λ (s : Pivot (variables ring)). s.index) (P ++ S ∷ []) ++ indices_in_turn (length K) ms ≡ map
          (λ (s : Pivot (variables ring)). s.index) P ++ length K ∷ indices_in_turn (length K) ms =
          ap (λ z. z ++ indices_in_turn (length K) ms) (map-append (λ (s : Pivot (variables ring)). s.index) P (S ∷ []))
          ∙ append_assoc (map (λ (s : Pivot (variables ring)). s.index) P) (length K ∷ []) (indices_in_turn (length K) ms)
          in
          subst (λ z. Ends ring F (pivots_after ring.modulus.value (column_of F) (choice_at met) z (numbers_from (i + 1) (length ms)))
          (rows_in_turn (add_choice (Some a) rows) ms)
          (map (λ (s : Pivot (variables ring)). s.index) P ++ length K ∷ indices_in_turn (length K) ms) (K ++ kept_of (column_of F) (i + 1) ms)) (sym g)
          (subst (λ z. Ends ring F
          (pivots_after ring.modulus.value (column_of F) (choice_at met) (grown ring.modulus.value (Some a) i v T) (numbers_from (i + 1) (length ms)))
          (rows_in_turn z ms)
          (map (λ (s : Pivot (variables ring)). s.index) P ++ length K ∷ indices_in_turn (length K) ms) (K ++ kept_of (column_of F) (i + 1) ms)) e1
          (subst (λ z. Ends ring F
          (pivots_after ring.modulus.value (column_of F) (choice_at met) (grown ring.modulus.value (Some a) i v T) (numbers_from (i + 1) (length ms)))
          (rows_in_turn (rows ++ there.0 ∷ []) ms)
          z (K ++ kept_of (column_of F) (i + 1) ms)) e2 r))
