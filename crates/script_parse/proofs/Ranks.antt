-- The tests of ranks, lengths and the numbers of entries
use Rattle.std.proofs.Common.{◌≡◌, ℕ, zero, suc, ◌+◌, ◌*◌, ◌<◌, ◌≤◌, ◌⊎◌, inl, inr, nat_eq, Bool, true, false, List, [], ◌∷◌, ◌++◌, length, Option, Some, None, cond, refl, sym, ap, ap₂, subst, ◌∙◌, arith, length-append, le_refl, mul-le-mul}
use Rattle.std.proofs.lemmas.Bool.{cases_lt, eqb-false, eqb-true, leb-false, leb-true}
use Rattle.std.specs.List.{list_all}
use Rattle.std.specs.Prelude.{Contains, flat_map, nat_le, ◌&&◌}
use Rattle.poly_grammar.specs.Trees.{Poly}
use Rattle.script_forms.specs.Forms.{further, shape_behind}
use Rattle.script_forms.specs.declared.vectors.Shape.{Shape}
use Rattle.script_forms.specs.declared.vectors.Shape.TheVariants.{Each, Empty, Mixed}
use Rattle.script_parse.specs.Refusals.{IsOutside}
use Rattle.script_parse.specs.Tests.{has_width, length_fits, low_rank, module_fits, within}

both : (a b : Bool) → (a && b) ≡ true → (a ≡ true) × (b ≡ true)
both true b h = (refl, h)
both false b h = absurd cc

le_true : (m n : ℕ) → nat_le m n ≡ true → m ≤ n
le_true m n e = leb-true m n e

le_false : (m n : ℕ) → nat_le m n ≡ false → n < m
le_false m n e = leb-false m n e

eq_true : (m n : ℕ) → nat_eq m n ≡ true → m ≡ n
eq_true m n e = eqb-true m n e

eq_false : (m n : ℕ) → nat_eq m n ≡ false → m ≡ n → ⊥
eq_false m n e f = eqb-false m n e f

-- a number is within bounds or outside of them
pub not_within : (last k : ℕ) → within last k ≡ false → IsOutside last k
not_within last k e = by_tests (nat_le 1 k) (nat_le k last) refl refl e
  where
    by_tests : (a b : Bool) → nat_le 1 k ≡ a → nat_le k last ≡ b → (a && b) ≡ false → IsOutside last k
    by_tests false b p q h = inl (let lt = le_false 1 k p in omega arith)
    by_tests true false p q h = inr (le_false k last q)
    by_tests true true p q h = absurd cc

pub within_not : (last k : ℕ) → within last k ≡ true → IsOutside last k → ⊥
within_not last k e (inl h) = let le = le_true 1 k (both (nat_le 1 k) (nat_le k last) e).0 in omega arith
within_not last k e (inr h) = let le = le_true k last (both (nat_le 1 k) (nat_le k last) e).1 in omega arith

pub within_some : (last k : ℕ) → within last k ≡ true → 0 < k
within_some last k e = let le = le_true 1 k (both (nat_le 1 k) (nat_le k last) e).0 in omega arith

-- a factor's rank, and a list's length
pub rank_above : (o : Option ℕ) → low_rank o ≡ false → (r : ℕ) × (o ≡ Some r) × (1 < r)
rank_above None e = absurd cc
rank_above (Some r) e = (r, refl, le_false r 1 e)

pub low_not : (o : Option ℕ) (r : ℕ) → low_rank o ≡ true → o ≡ Some r → 1 < r → ⊥
low_not None r e f lt = absurd cc
low_not (Some s) r e f lt = let same : s ≡ r = cc (f) in let le = le_true s 1 e in omega arith

pub length_other : (o : Option ℕ) → length_fits o ≡ false → (n : ℕ) × (o ≡ Some n) × IsOutside 64 n
length_other None e = absurd cc
length_other (Some n) e = (n, refl, not_within 64 n e)

pub length_low : (o : Option ℕ) (n : ℕ) → length_fits o ≡ true → o ≡ Some n → IsOutside 64 n → ⊥
length_low None n e f h = absurd cc
length_low (Some m) n e f h = let same : m ≡ n = cc (f) in within_not 64 m e (subst (IsOutside 64) (sym same) h)

-- the shape of vectors tells whether all have so many entries
further_width : (rank n : ℕ) (s : Shape) → has_width rank (further s n) ≡ (has_width rank s && nat_eq n rank)
further_width rank n Empty = refl
further_width rank n Mixed = refl
further_width rank n (Each m) = by_test (nat_eq m n) refl
  where
    same : (a : Bool) → a ≡ (a && a)
    same true = refl
    same false = refl

    apart : (a b : Bool) → nat_eq m rank ≡ a → nat_eq n rank ≡ b → nat_eq m n ≡ false → false ≡ (a && b)
    apart true true p q f = absurd (eq_false m n f (eq_true m rank p ∙ sym (eq_true n rank q)))
    apart true false p q f = refl
    apart false b p q f = refl

    by_test : (t : Bool) → nat_eq m n ≡ t → has_width rank (cond t (Each m) Mixed) ≡ (nat_eq m rank && nat_eq n rank)
    by_test true p = same (nat_eq m rank) ∙ ap (λ k. nat_eq m rank && nat_eq k rank) (eq_true m n p)
    by_test false p = apart (nat_eq m rank) (nat_eq n rank) refl refl p

and_assoc : (a b c : Bool) → ((a && b) && c) ≡ (a && (b && c))
and_assoc true b c = refl
and_assoc false b c = refl

and_true : (a : Bool) → a ≡ (a && true)
and_true true = refl
and_true false = refl

widths : (rank : ℕ) (s : Shape) (vectors : List (List Poly)) → has_width rank (shape_behind s vectors) ≡ (has_width rank s && list_all (λ es. nat_eq (length es) rank) vectors)
widths rank s [] = and_true (has_width rank s)
widths rank s (es ∷ more) =
    widths rank (further s (length es)) more ∙ ap (λ a. a && list_all (λ es. nat_eq (length es) rank) more) (further_width rank (length es) s)
    ∙ and_assoc (has_width rank s) (nat_eq (length es) rank) (list_all (λ es. nat_eq (length es) rank) more)

-- all vectors have so many entries, or one has not
all_wide : (rank : ℕ) (vectors : List (List Poly)) → list_all (λ es. nat_eq (length es) rank) vectors ≡ true → (es : List Poly) → Contains vectors es → length es ≡ rank
all_wide rank [] e es c = absurd (omega (arith, c.1))
all_wide rank (x ∷ vectors) e es (zero, lt, is) = subst (λ z. length z ≡ rank) is (eq_true (length x) rank (both (nat_eq (length x) rank) (list_all (λ es. nat_eq (length es) rank) vectors) e).0)
all_wide rank (x ∷ vectors) e es (suc i, lt, is) = all_wide rank vectors (both (nat_eq (length x) rank) (list_all (λ es. nat_eq (length es) rank) vectors) e).1 es (i, omega (arith, lt), is)

some_other : (rank : ℕ) (vectors : List (List Poly)) → list_all (λ es. nat_eq (length es) rank) vectors ≡ false → (es : List Poly) × Contains vectors es × (length es ≡ rank → ⊥)
some_other rank [] e = absurd cc
some_other rank (x ∷ vectors) e = by_test (nat_eq (length x) rank) refl e (λ h. some_other rank vectors h)
  where
    by_test :
        (t : Bool) → nat_eq (length x) rank ≡ t → (t && list_all (λ es. nat_eq (length es) rank) vectors) ≡ false
        → (list_all (λ es. nat_eq (length es) rank) vectors ≡ false → (es : List Poly) × Contains vectors es × (length es ≡ rank → ⊥)) → (es : List Poly) × Contains (x ∷ vectors) es × (length es ≡ rank → ⊥)
    by_test false p h later = (x, (0, omega arith, refl), eq_false (length x) rank p)
    by_test true p h later = let l = later h in (l.0, (suc l.1.0, (let lt = l.1.1 in omega arith), l.1.2), l.2)

total : (rank : ℕ) (vectors : List (List Poly)) → list_all (λ es. nat_eq (length es) rank) vectors ≡ true → length (flat_map (λ es. es) vectors) ≡ length vectors * rank
total rank [] e = omega arith
total rank (es ∷ more) e =
    let b = both (nat_eq (length es) rank) (list_all (λ es. nat_eq (length es) rank) more) e in
    let here : length es ≡ rank = eq_true (length es) rank b.0 in
    let later : length (flat_map (λ es. es) more) ≡ length more * rank = total rank more b.1 in
    let all : length (es ++ flat_map (λ es. es) more) ≡ length es + length (flat_map (λ es. es) more) = length-append es (flat_map (λ es. es) more) in
    all ∙ ap₂ ◌+◌ here later ∙ omega arith

too_many : (n rank : ℕ) → 1000 * rank < n * rank → 1000 < n
too_many n rank lt = by_cases (cases_lt 1000 n)
  where
    by_cases : (1000 < n) ⊎ (n ≤ 1000) → 1000 < n
    by_cases (inl h) = h
    by_cases (inr h) = let le : n * rank ≤ 1000 * rank = mul-le-mul h (le_refl rank) in absurd (omega arith)

not_many : (n rank : ℕ) → 0 < rank → n * rank ≤ 1000 * rank → 1000 < n → ⊥
not_many n rank some le lt = let more : 1001 * rank ≤ n * rank = mul-le-mul (omega arith) (le_refl rank) in omega arith

-- the test of a module's vectors, which have so many entries in all
pub vectors_other :
    (rank : ℕ) (vectors : List (List Poly)) (count : ℕ) → count ≡ length (flat_map (λ es. es) vectors) → module_fits rank (shape_behind Empty vectors) count ≡ false
    → IsOutside 64 rank ⊎ ((es : List Poly) × Contains vectors es × (length es ≡ rank → ⊥)) ⊎ (1000 < length vectors)
vectors_other rank vectors count n e = by_tests (within 64 rank) (list_all (λ es. nat_eq (length es) rank) vectors) (nat_le count (1000 * rank)) refl refl refl
    (sym (ap (λ a. (within 64 rank && a) && nat_le count (1000 * rank)) (widths rank Empty vectors)) ∙ e)
  where
    by_tests :
        (a b c : Bool) → within 64 rank ≡ a → list_all (λ es. nat_eq (length es) rank) vectors ≡ b → nat_le count (1000 * rank) ≡ c → ((a && b) && c) ≡ false
        → IsOutside 64 rank ⊎ ((es : List Poly) × Contains vectors es × (length es ≡ rank → ⊥)) ⊎ (1000 < length vectors)
    by_tests false b c p q r h = inl (not_within 64 rank p)
    by_tests true false c p q r h = inr (inl (some_other rank vectors q))
    by_tests true true false p q r h =
        let lt : 1000 * rank < count = le_false count (1000 * rank) r in
        let all : count ≡ length vectors * rank = n ∙ total rank vectors q in
        inr (inr (too_many (length vectors) rank (subst (λ k. 1000 * rank < k) all lt)))
    by_tests true true true p q r h = absurd cc

pub vectors_fit :
    (rank : ℕ) (vectors : List (List Poly)) (count : ℕ) → count ≡ length (flat_map (λ es. es) vectors) → module_fits rank (shape_behind Empty vectors) count ≡ true
    → IsOutside 64 rank ⊎ ((es : List Poly) × Contains vectors es × (length es ≡ rank → ⊥)) ⊎ (1000 < length vectors) → ⊥
vectors_fit rank vectors count n e = go
  where
    outer : ((within 64 rank && has_width rank (shape_behind Empty vectors)) ≡ true) × (nat_le count (1000 * rank) ≡ true)
    outer = both (within 64 rank && has_width rank (shape_behind Empty vectors)) (nat_le count (1000 * rank)) e

    inner : (within 64 rank ≡ true) × (has_width rank (shape_behind Empty vectors) ≡ true)
    inner = both (within 64 rank) (has_width rank (shape_behind Empty vectors)) outer.0

    wide : list_all (λ es. nat_eq (length es) rank) vectors ≡ true
    wide = sym (widths rank Empty vectors) ∙ inner.1

    go : IsOutside 64 rank ⊎ ((es : List Poly) × Contains vectors es × (length es ≡ rank → ⊥)) ⊎ (1000 < length vectors) → ⊥
    go (inl h) = within_not 64 rank inner.0 h
    go (inr (inl (es, c, other))) = other (all_wide rank vectors wide es c)
    go (inr (inr h)) =
        let all : count ≡ length vectors * rank = n ∙ total rank vectors wide in
        not_many (length vectors) rank (within_some 64 rank inner.0) (subst (λ k. k ≤ 1000 * rank) all (le_true count (1000 * rank) outer.1)) h

-- what passed: the rank is some, and each vector has as many entries
pub module_passes :
    (rank : ℕ) (vectors : List (List Poly)) (count : ℕ) → module_fits rank (shape_behind Empty vectors) count ≡ true
    → (0 < rank) × (list_all (λ es. nat_eq (length es) rank) vectors ≡ true)
module_passes rank vectors count e =
    let outer = both (within 64 rank && has_width rank (shape_behind Empty vectors)) (nat_le count (1000 * rank)) e in
    let inner = both (within 64 rank) (has_width rank (shape_behind Empty vectors)) outer.0 in
    (within_some 64 rank inner.0, sym (widths rank Empty vectors) ∙ inner.1)

pub same_width : (es rank : ℕ) → nat_eq es rank ≡ true → es ≡ rank
same_width es rank e = eq_true es rank e
