-- The start of a row's way, and what is left at its end
use Rattle.std.proofs.Common.{List, [], ap, ap₂, append-nil, arith, false, get_or, length, mod-lt, refl, replicate, subst, suc, sym, take, zero, ℕ, ◌%◌, ◌*◌, ◌+◌, ◌++◌, ◌-◌, ◌<◌, ◌==◌, ◌∙◌, ◌∷◌, ◌≡◌, ◌≤◌, mul_comm}
use Rattle.std.proofs.lemmas.Bool.{true≢false}
use Rattle.std.proofs.lemmas.List.{get_or_push, length-replicate, length-take-le, map-append, take_more}
use native.Mathlib.Nat.{zero-mod}
use Rattle.residues.proofs.Congruences.{IsCongruent_add, IsCongruent_minus, IsCongruent_mod, IsCongruent_multiply, IsCongruent_of, IsCongruent_refl, IsCongruent_sym, IsCongruent_trans}
use Rattle.residues.specs.Residues.{IsCongruent, IsDomain}
use Rattle.monomials.specs.Exponents.{unit}
use Rattle.formal_sums.proofs.Combining.{IsSame_combination, combination-scale, scale-one}
use Rattle.formal_sums.proofs.Sameness.{IsSame_append, IsSame_of, IsSame_refl, IsSame_scale, IsSame_sym, IsSame_trans, coefficient-scale_unit, scale-append, shift-unit}
use Rattle.formal_sums.proofs.WeightedSums.{coefficient-append}
use Rattle.formal_sums.specs.Combinations.{combination}
use Rattle.formal_sums.specs.FormalSums.{Each, FormalSum, IsSame, Key, coefficient, indicator, scale, weighted_sum}
use Rattle.zp_field.specs.Moduli.{IsInverse}
use Rattle.row_laws.proofs.RowSpans.{IsInSpan_append, IsInSpan_itself, IsInSpan_same, IsInSpan_scale}
use Rattle.row_laws.specs.Rows.{IsInSpan}
use Rattle.row_matrix.specs.Rows.{AreEntries, Entry, RowShown, first_column, first_residue, row_sum, shown_row_at, source_key}
use Rattle.term_lists.proofs.Scaling.{take_item}
use Rattle.dense_reduction.proofs.Clearing.{sources_push}
use Rattle.dense_reduction.proofs.Entries.{entries_from, entries_push}
use Rattle.dense_reduction.proofs.Naming.{span_left}
use Rattle.dense_reduction.specs.Dense.{AddsMultiple, AreWithin, HasRoom, IsDense, dense_sum}
use Rattle.dense_reduction.specs.Pivots.{row_vectors}
use Rattle.dense_reduction.specs.Underway.{AreIdle, IsCombinedDense, IsLeftRow, IsReducedRow, IsSpanned, IsRowUnderway, entries_rescaled, sources_sum}

-- ---- numbers, one after another
dense_push : {n : ℕ} (key : ℕ → Key n) (j a : ℕ) (xs : List ℕ) → dense_sum key j (xs ++ a ∷ []) ≡ dense_sum key j xs ++ (key (j + length xs), a) ∷ []
dense_push key j a [] = ap (λ m. (key m, a) ∷ []) (let e : j ≡ j + 0 = omega arith in e)
dense_push key j a (x ∷ xs) = ap (λ r. (key j, x) ∷ r) (dense_push key (j + 1) a xs ∙ ap (λ m. dense_sum key (j + 1) xs ++ (key m, a) ∷ []) (let e : j + 1 + length xs ≡ j + suc (length xs) = omega arith in e))

dense_take : {n : ℕ} (key : ℕ → Key n) (i : ℕ) (xs : List ℕ) → i < length xs → dense_sum key 0 (take (i + 1) xs) ≡ dense_sum key 0 (take i xs) ++ (key i, get_or xs i 0) ∷ []
dense_take key i xs lt =
    ap (dense_sum key 0) (take_more xs i 0 lt) ∙ dense_push key 0 (get_or xs i 0) (take i xs)
    ∙ ap (λ m. dense_sum key 0 (take i xs) ++ (key m, get_or xs i 0) ∷ []) (let e : 0 + length (take i xs) ≡ i = omega (arith, length-take-le i xs (let l : i ≤ length xs = omega arith in l)) in e)

-- the next number's multiple is the next residue
collect_sum :
    {n p : ℕ} (key : ℕ → Key n) (factor i product : ℕ) (es : List Entry) (numbers : List ℕ)
    → i < length numbers → IsCongruent p product (factor * get_or numbers i 0)
    → IsSame p (row_sum key es) (scale factor (unit n) (dense_sum key 0 (take i numbers)))
    → IsSame p (row_sum key es ++ (key i, product) ∷ []) (scale factor (unit n) (dense_sum key 0 (take (i + 1) numbers)))
collect_sum {n} {p} key factor i product es numbers lt e h =
    IsSame_trans (IsSame_append h (record { by_key = λ k. IsCongruent_add (IsCongruent_multiply e (IsCongruent_refl p (indicator k (key i)))) (IsCongruent_refl p 0) }))
    (IsSame_of p _ _ (sym (ap (scale factor (unit n)) (dense_take key i numbers lt) ∙ scale-append factor (unit n) (dense_sum key 0 (take i numbers)) ((key i, get_or numbers i 0) ∷ [])
    ∙ ap (λ k. scale factor (unit n) (dense_sum key 0 (take i numbers)) ++ (k, factor * get_or numbers i 0) ∷ []) (shift-unit (key i)))))

-- the product of the code's residue
pub product_is :
    (p factor a r product : ℕ) → product ≡ (factor * r) % p → r ≡ a % p → IsCongruent p product (factor * a)
product_is p factor a r product e f =
    IsCongruent_trans (IsCongruent_of p _ _ e) (IsCongruent_trans (IsCongruent_mod p (factor * r)) (IsCongruent_multiply (IsCongruent_refl p factor) (IsCongruent_trans (IsCongruent_of p _ _ f) (IsCongruent_mod p a))))

pub product_none : (p factor a r : ℕ) → r ≡ a % p → r ≡ 0 → IsCongruent p 0 (factor * a)
product_none p factor a r f z =
    IsCongruent_trans (IsCongruent_of p 0 (factor * 0) (omega arith))
    (IsCongruent_multiply (IsCongruent_refl p factor) (IsCongruent_trans (IsCongruent_of p 0 (a % p) (sym z ∙ f)) (IsCongruent_mod p a)))

pub collect_one :
    {n p : ℕ} (key : ℕ → Key n) (factor i product : ℕ) (es : List Entry) (numbers : List ℕ)
    → i < length numbers → IsCongruent p product (factor * get_or numbers i 0)
    → IsSame p (row_sum key es) (scale factor (unit n) (dense_sum key 0 (take i numbers)))
    → IsSame p (row_sum key (es ++ (i, product) ∷ [])) (scale factor (unit n) (dense_sum key 0 (take (i + 1) numbers)))
collect_one {n} {p} key factor i product es numbers lt e h =
    IsSame_trans (IsSame_of p _ _ (map-append (λ (x : Entry). (key x.0, x.1)) es ((i, product) ∷ []))) (collect_sum key factor i product es numbers lt e h)

pub collect_none :
    {n p : ℕ} (key : ℕ → Key n) (factor i product : ℕ) (es : List Entry) (numbers : List ℕ)
    → i < length numbers → IsCongruent p product (factor * get_or numbers i 0) → product ≡ 0
    → IsSame p (row_sum key es) (scale factor (unit n) (dense_sum key 0 (take i numbers)))
    → IsSame p (row_sum key es) (scale factor (unit n) (dense_sum key 0 (take (i + 1) numbers)))
collect_none {n} {p} key factor i product es numbers lt e z h =
    IsSame_trans (record { by_key = λ k. IsCongruent_of p _ _ (sym (coefficient-append (row_sum key es) ((key i, product) ∷ []) k ∙ ap (λ r. coefficient (row_sum key es) k + (r * indicator k (key i) + 0)) z ∙ omega arith)) })
    (collect_sum key factor i product es numbers lt e h)

-- ---- what is left, made monic
rescaled_sum : {n : ℕ} (p c : ℕ) (key : ℕ → Key n) (es : List Entry) → IsSame p (row_sum key (entries_rescaled p c es)) (scale c (unit n) (row_sum key es))
rescaled_sum {n} p c key [] = IsSame_refl p []
rescaled_sum {n} p c key (e ∷ es) = record {
  by_key = λ k.
      IsCongruent_trans
      (IsCongruent_add (IsCongruent_multiply (IsCongruent_mod p (c * e.1)) (IsCongruent_refl p (indicator k (key e.0)))) ((rescaled_sum p c key es).by_key k))
      (IsCongruent_of p _ _ (ap (λ x. c * e.1 * indicator k x + coefficient (scale c (unit n) (row_sum key es)) k) (sym (shift-unit (key e.0)))));
}

rescaled_entries : (p c low high : ℕ) (es : List Entry) → IsDomain p → 0 < c → c < p → AreEntries p low high es → AreEntries p low high (entries_rescaled p c es)
rescaled_entries p c low high [] d pos lt h = h
rescaled_entries p c low high (e ∷ es) d pos lt h =
    (h.0, d.nonzero c e.1 pos lt h.1 h.2, mod-lt (c * e.1) (let z : 0 < p = omega arith in z), rescaled_entries p c (e.0 + 1) high es d pos lt h.3)

rescaled_first : (p c : ℕ) (es : List Entry) → first_column (entries_rescaled p c es) ≡ first_column es
rescaled_first p c [] = refl
rescaled_first p c (e ∷ es) = refl

pub residues_below : (p low high : ℕ) (es : List Entry) → AreEntries p low high es → Each (λ e. e.1 < p) es
residues_below p low high [] h = tt
residues_below p low high (e ∷ es) h = (h.2, residues_below p (e.0 + 1) high es h.3)

inverse_nonzero : (p a b : ℕ) → 1 < p → IsInverse p a b → 0 < b
inverse_nonzero p a zero one h = let e : (a * 0) % p ≡ 1 = h.one in let z : a * 0 ≡ 0 = omega arith in let w : 0 % p ≡ 1 = ap (λ x. x % p) (sym z) ∙ e in let v : 0 % p ≡ 0 = zero-mod p in absurd (omega arith)
inverse_nonzero p a (suc b) one h = omega arith

pub left_row_of :
    (p columns inputs a inverse : ℕ) (rows : List RowShown) (start : RowShown) (left taken sources' : List Entry) (row : RowShown)
    → IsDomain p → AreEntries p 0 columns left → 0 < length left → a ≡ first_residue left → IsInverse p a inverse
    → row.entries ≡ entries_rescaled p inverse left → row.sources ≡ sources' → AreEntries p 0 inputs sources'
    → ((n : ℕ) (key : ℕ → Key n) → IsSame p (row_sum key sources') (scale inverse (unit n) (sources_sum key rows start taken)))
    → IsLeftRow p columns inputs rows start left taken row
left_row_of p columns inputs a inverse rows start left taken sources' row d es some first inv er sr ss sum = record {
  good = record {
    entries = subst (AreEntries p 0 columns) (sym er) (rescaled_entries p inverse 0 columns left d (inverse_nonzero p a inverse d.above_one inv) inv.below es);
    monic = ap first_residue er ∙ one left some first;
    sources = subst (AreEntries p 0 inputs) (sym sr) ss;
  };
  first = ap first_column er ∙ rescaled_first p inverse left;
  some = some;
  factor = inverse;
  back = a;
  inverse = IsCongruent_trans (IsCongruent_sym (IsCongruent_mod p (inverse * a))) (IsCongruent_of p ((inverse * a) % p) 1 (ap (λ x. x % p) (mul_comm inverse a) ∙ inv.one));
  entries = λ n key. IsSame_trans (IsSame_of p _ _ (ap (row_sum key) er)) (rescaled_sum p inverse key left);
  combination = λ n key. IsSame_trans (IsSame_of p _ _ (ap (row_sum key) sr)) (sum n key);
}
  where
    one : (left : List Entry) → 0 < length left → a ≡ first_residue left → first_residue (entries_rescaled p inverse left) ≡ 1
    one [] s f = absurd (omega arith)
    one (e ∷ es) s f = ap (λ x. (inverse * x) % p) (sym f) ∙ ap (λ x. x % p) (mul_comm inverse a) ∙ inv.one

-- ---- the start
dense_zeros : {n : ℕ} (f : Key n → ℕ) (key : ℕ → Key n) (j m : ℕ) → weighted_sum f (dense_sum key j (replicate m 0)) ≡ 0
dense_zeros f key j zero = refl
dense_zeros f key j (suc m) = let h = dense_zeros f key (j + 1) m in omega (arith, h)

pub dense_start : (p limit m : ℕ) → 1 < p → HasRoom p limit → IsDense limit (replicate m 0)
dense_start p limit zero one h = tt
dense_start p limit (suc m) one h = (omega (arith, square p one, h.some), dense_start p limit m one h)
  where
    square : (p : ℕ) → 1 < p → 0 < p * p
    square zero one = absurd (omega arith)
    square (suc q) one = omega arith

pub start_sum :
    {n p : ℕ} (key : ℕ → Key n) (m : ℕ) (es : List Entry) (zeros numbers : List ℕ)
    → zeros ≡ replicate m 0 → AddsMultiple p 1 es zeros numbers
    → IsSame p (dense_sum key 0 numbers) (row_sum key es)
start_sum {n} {p} key m es zeros numbers e h =
    IsSame_trans (h.sum n key)
    (record {
      by_key = λ k.
          IsCongruent_of p _ _ (coefficient-append (dense_sum key 0 zeros) (scale 1 (unit n) (row_sum key es)) k
          ∙ ap₂ ◌+◌ (ap (λ xs. coefficient (dense_sum key 0 xs) k) e ∙ dense_zeros (indicator k) key 0 m) (ap (λ v. coefficient v k) (scale-one (row_sum key es))) ∙ omega arith);
    })

pub zeros_at : (m j : ℕ) → get_or {A = ℕ} (replicate m 0) j 0 ≡ 0
zeros_at zero j = refl
zeros_at (suc m) zero = refl
zeros_at (suc m) (suc j) = zeros_at m j

-- numbers that are idle
pub idle_zeros : (columns : ℕ) (numbers : List ℕ) → AreIdle columns numbers → numbers ≡ replicate columns 0
idle_zeros columns numbers h = go numbers h.1 ∙ ap (λ m. replicate m 0) h.0
  where
    go : (xs : List ℕ) → Each (λ a. a ≡ 0) xs → xs ≡ replicate (length xs) 0
    go [] g = refl
    go (x ∷ xs) g = ap₂ ◌∷◌ g.0 (go xs g.1)

pub zeros_idle : (columns : ℕ) (numbers : List ℕ) → length numbers ≡ columns → ((j : ℕ) → j < columns → get_or numbers j 0 ≡ 0) → AreIdle columns numbers
zeros_idle columns numbers e h = (e, go numbers (λ j lt. h j (omega (arith, e, lt))))
  where
    go : (xs : List ℕ) → ((j : ℕ) → j < length xs → get_or xs j 0 ≡ 0) → Each (λ a. a ≡ 0) xs
    go [] g = tt
    go (x ∷ xs) g = (g 0 (omega arith), go xs (λ j lt. g (suc j) (omega (arith, lt))))

-- the row behind its first entry, and its pivot behind the first one
pub start_underway :
    (p limit c columns count number factor : ℕ) (pivots : List ℕ) (tail tail' : List Entry) (zeros numbers numbers' : List ℕ) (left taken : List Entry)
    → AreEntries p (c + 1) columns tail → AreEntries p (c + 1) columns tail' → zeros ≡ replicate columns 0
    → AddsMultiple p 1 tail zeros numbers → AddsMultiple p factor tail' numbers numbers' → number < count → factor < p
    → left ≡ [] → taken ≡ (number, factor) ∷ [] → HasRoom p limit → IsDense limit numbers'
    → IsRowUnderway p limit (c + 1) columns count pivots left numbers' taken
start_underway p limit c columns count number factor pivots tail tail' zeros numbers numbers' left taken es es' z a a' known small e one room below = record {
  numbered = a'.count ∙ a.count ∙ ap length z ∙ length-replicate columns 0;
  room = room;
  small = below;
  known = subst (AreWithin p count) (sym one) ((known, small), tt);
  cleared = λ j lt.
      a'.before j (entries_from p (c + 1) columns j tail' es' lt) ∙ a.before j (entries_from p (c + 1) columns j tail es lt)
      ∙ ap (λ xs. get_or xs j 0) z ∙ zeros_at columns j;
  entries = subst (AreEntries p 0 (c + 1)) (sym e) (let w : 0 ≤ c + 1 = omega arith in w);
  free = subst (Each (λ x. get_or pivots x.0 0 ≡ 0)) (sym e) tt;
}

-- the row behind its first entry, which stays
pub stays_underway :
    (p limit c columns count : ℕ) (pivots : List ℕ) (tail : List Entry) (zeros numbers : List ℕ) (left taken : List Entry)
    → 1 < p → AreEntries p (c + 1) columns tail → zeros ≡ replicate columns 0 → AddsMultiple p 1 tail zeros numbers
    → get_or pivots c 0 ≡ 0 → left ≡ (c, 1) ∷ [] → taken ≡ [] → HasRoom p limit → IsDense limit numbers
    → IsRowUnderway p limit (c + 1) columns count pivots left numbers taken
stays_underway p limit c columns count pivots tail zeros numbers left taken one es z a none e e' room below = record {
  numbered = a.count ∙ ap length z ∙ length-replicate columns 0;
  room = room;
  small = below;
  known = subst (AreWithin p count) (sym e') tt;
  cleared = λ j lt. a.before j (entries_from p (c + 1) columns j tail es lt) ∙ ap (λ xs. get_or xs j 0) z ∙ zeros_at columns j;
  entries = subst (AreEntries p 0 (c + 1)) (sym e) (entries_push p 0 c 1 [] (let w : 0 ≤ c = omega arith in w) (omega arith) one);
  free = subst (Each (λ x. get_or pivots x.0 0 ≡ 0)) (sym e) (none, tt);
}

-- ---- the end
-- numbers that are all 0
dense_none :
    {n : ℕ} (key : ℕ → Key n) (j : ℕ) (xs : List ℕ) → ((i : ℕ) → i < length xs → get_or xs i 0 ≡ 0)
    → (f : Key n → ℕ) → weighted_sum f (dense_sum key j xs) ≡ 0
dense_none key j [] h f = refl
dense_none key j (x ∷ xs) h f =
    let a : x ≡ 0 = h 0 (omega arith) in
    let b = dense_none key (j + 1) xs (λ i lt. h (suc i) (omega arith)) f in
    rw a (omega (arith, b))

pub done_sum :
    {n p : ℕ} (key : ℕ → Key n) (left : List Entry) (numbers : List ℕ) → ((j : ℕ) → j < length numbers → get_or numbers j 0 ≡ 0)
    → IsSame p (row_sum key left ++ dense_sum key 0 numbers) (row_sum key left)
done_sum {n} {p} key left numbers cleared = record {
  by_key = λ k. IsCongruent_of p _ _ (coefficient-append (row_sum key left) (dense_sum key 0 numbers) k ∙ ap (λ x. coefficient (row_sum key left) k + x) (dense_none key 0 numbers cleared (indicator k)) ∙ omega arith);
}

-- rows of the front are in the span of more rows
pub span_front :
    {n p : ℕ} (key : ℕ → Key n) (rows : List RowShown) (r : RowShown) (v : FormalSum n)
    → IsInSpan p (row_vectors key rows) v → IsInSpan p (row_vectors key (rows ++ r ∷ [])) v
span_front key rows r v h = span_left key rows (r ∷ []) v h

pub span_last : {n p : ℕ} (key : ℕ → Key n) (rows : List RowShown) (r : RowShown) → IsInSpan p (row_vectors key (rows ++ r ∷ [])) (row_sum key r.entries)
span_last {n} {p} key rows r =
    subst (λ xs. IsInSpan p xs (row_sum key r.entries)) (sym (map-append (λ (x : RowShown). row_sum key x.entries) rows (r ∷ [])))
    (subst (IsInSpan p (row_vectors key rows ++ row_sum key r.entries ∷ [])) (get_or_push (row_vectors key rows) (row_sum key r.entries) [] (length (row_vectors key rows)) refl) (IsInSpan_itself p (row_vectors key rows ++ row_sum key r.entries ∷ []) (length (row_vectors key rows))))

-- a row that was reduced by rows to what is left, and the monic row made of that
module _ (p : ℕ) (pos : 0 < p) (rows : List RowShown) (row : RowShown) (left : List Entry) (numbers : List ℕ)
    (cleared : (j : ℕ) → j < length numbers → get_or numbers j 0 ≡ 0) (reduced : IsReducedRow p rows row left numbers) where
  -- nothing is left
  pub done_nothing : left ≡ [] → IsSpanned p rows row
  done_nothing e n key =
      let h = reduced n key in
      IsInSpan_same (row_vectors key rows) h.taken (row_sum key row.entries)
      (IsSame_sym (IsSame_trans h.sums (IsSame_append (IsSame_trans (done_sum key left numbers cleared) (IsSame_of p _ _ (ap (row_sum key) e))) (IsSame_refl p h.taken))))
      h.spanned

  -- the row is spanned with what is left of it
  pub done_inside : (columns inputs : ℕ) (all : List RowShown) (taken : List Entry) (r : RowShown) → IsLeftRow p columns inputs all row left taken r → IsSpanned p (rows ++ r ∷ []) row
  done_inside columns inputs all taken r l = λ n key.
      let h = reduced n key in
      let span = row_vectors key (rows ++ r ∷ []) in
      let b : IsInSpan p span (scale l.back (unit n) (row_sum key r.entries)) = IsInSpan_scale span l.back (row_sum key r.entries) (span_last key rows r) in
      IsInSpan_same span (scale l.back (unit n) (row_sum key r.entries) ++ h.taken) (row_sum key row.entries)
      (IsSame_sym (IsSame_trans h.sums (IsSame_append (IsSame_trans (done_sum key left numbers cleared) (IsSame_sym (back n key))) (IsSame_refl p h.taken))))
      (IsInSpan_append span (scale l.back (unit n) (row_sum key r.entries)) h.taken b (span_front key rows r h.taken h.spanned))
    where
      back : (n : ℕ) (key : ℕ → Key n) → IsSame p (scale l.back (unit n) (row_sum key r.entries)) (row_sum key left)
      back n key = record {
        by_key = λ k.
            let x = coefficient (row_sum key left) k in
            IsCongruent_trans (IsCongruent_of p _ _ (coefficient-scale_unit l.back (row_sum key r.entries) k))
            (IsCongruent_trans (IsCongruent_multiply (IsCongruent_refl p l.back) (IsCongruent_trans ((l.entries n key).by_key k) (IsCongruent_of p _ _ (coefficient-scale_unit l.factor (row_sum key left) k))))
            (IsCongruent_trans (IsCongruent_of p (l.back * (l.factor * x)) (l.factor * l.back * x) (again l.back l.factor x))
            (IsCongruent_trans (IsCongruent_multiply l.inverse (IsCongruent_refl p x)) (IsCongruent_of p (1 * x) x (omega arith)))));
      }
        where
          again : (a b x : ℕ) → a * (b * x) ≡ b * a * x
          again a b x = grind arith

  -- what is left of it is spanned with the row
  pub done_outside : (columns inputs : ℕ) (all : List RowShown) (taken : List Entry) (r : RowShown) → IsLeftRow p columns inputs all row left taken r → IsSpanned p (rows ++ row ∷ []) r
  done_outside columns inputs all taken r l = λ n key.
      let h = reduced n key in
      let span = row_vectors key (rows ++ row ∷ []) in
      let minus : IsInSpan p span (scale (p - 1) (unit n) h.taken) = IsInSpan_scale span (p - 1) h.taken (span_front key rows row h.taken h.spanned) in
      let a : IsInSpan p span (row_sum key left) =
      IsInSpan_same span (row_sum key row.entries ++ scale (p - 1) (unit n) h.taken) (row_sum key left) (less n key) (IsInSpan_append span (row_sum key row.entries) (scale (p - 1) (unit n) h.taken) (span_last key rows row) minus) in
      IsInSpan_same span (scale l.factor (unit n) (row_sum key left)) (row_sum key r.entries) (IsSame_sym (l.entries n key)) (IsInSpan_scale span l.factor (row_sum key left) a)
    where
      less : (n : ℕ) (key : ℕ → Key n) → IsSame p (row_sum key row.entries ++ scale (p - 1) (unit n) (reduced n key).taken) (row_sum key left)
      less n key = record {
        by_key = λ k.
            let h = reduced n key in
            let t = coefficient h.taken k in
            let x = coefficient (row_sum key left) k in
            let v : IsCongruent p (coefficient (row_sum key row.entries) k) (x + t) =
            IsCongruent_trans ((IsSame_trans h.sums (IsSame_append (done_sum key left numbers cleared) (IsSame_refl p h.taken))).by_key k) (IsCongruent_of p _ _ (coefficient-append (row_sum key left) h.taken k)) in
            IsCongruent_trans (IsCongruent_of p _ _ (coefficient-append (row_sum key row.entries) (scale (p - 1) (unit n) h.taken) k ∙ ap (λ y. coefficient (row_sum key row.entries) k + y) (coefficient-scale_unit (p - 1) h.taken k)))
            (IsCongruent_trans (IsCongruent_add v (IsCongruent_refl p ((p - 1) * t)))
            (IsCongruent_trans (IsCongruent_of p (x + t + (p - 1) * t) (x + (t + (p - 1) * t)) (omega arith))
            (IsCongruent_trans (IsCongruent_add (IsCongruent_refl p x) (IsCongruent_minus p t pos)) (IsCongruent_of p (x + 0) x (omega arith)))));
      }

-- what is left is a combination of input rows
pub done_combined :
    {n : ℕ} (p : ℕ) → 0 < p → (F : List (FormalSum n)) (key : ℕ → Key n) (columns inputs : ℕ) (all : List RowShown) (row : RowShown) (left taken : List Entry) (numbers : List ℕ) (r : RowShown)
    → ((j : ℕ) → j < length numbers → get_or numbers j 0 ≡ 0) → IsLeftRow p columns inputs all row left taken r
    → IsCombinedDense p F key all row left numbers taken
    → IsSame p (combination F (row_sum (source_key n) r.sources)) (row_sum key r.entries)
done_combined {n} p pos F key columns inputs all row left taken numbers r cleared l h =
    let a : IsSame p (combination F (sources_sum (source_key n) all row taken)) (row_sum key left) = IsSame_trans h (done_sum key left numbers cleared) in
    IsSame_trans (IsSame_combination pos F _ _ (l.combination n (source_key n)))
    (IsSame_trans (IsSame_of p _ _ (combination-scale F l.factor (unit n) (sources_sum (source_key n) all row taken)))
    (IsSame_trans (IsSame_scale pos l.factor (unit n) a) (IsSame_sym (l.entries n key))))

-- the first entry
pub first_column_read : (es : List Entry) → (get_or es 0 (0, 0)).0 ≡ first_column es
first_column_read [] = refl
first_column_read (y ∷ es) = refl

pub first_column_within : (p low high : ℕ) (es : List Entry) → AreEntries p low high es → low ≤ high → first_column es ≤ high
first_column_within p low high [] h le = omega arith
first_column_within p low high (x ∷ es) h le = omega (arith, bound p (x.0 + 1) high es h.3)
  where
    bound : (p low high : ℕ) (es : List Entry) → AreEntries p low high es → low ≤ high
    bound p low high [] h = h
    bound p low high (e ∷ es) h = omega (arith, h.0, bound p (e.0 + 1) high es h.3)

-- ---- the sources, composed
-- the row's own
pub sources_start :
    {n p : ℕ} (key : ℕ → Key n) (rows : List RowShown) (row : RowShown) (inputs : ℕ) (zeros numbers : List ℕ)
    → zeros ≡ replicate inputs 0 → AddsMultiple p 1 row.sources zeros numbers
    → IsSame p (dense_sum key 0 numbers) (sources_sum key rows row [])
sources_start {n} {p} key rows row inputs zeros numbers e h =
    IsSame_trans (start_sum key inputs row.sources zeros numbers e h) (IsSame_of p _ _ (sym (append-nil (row_sum key row.sources))))

-- those of one more row
pub sources_more :
    {n p : ℕ} (key : ℕ → Key n) (rows : List RowShown) (row : RowShown) (taken : List Entry) (i : ℕ) (t : Entry) (r : RowShown) (numbers numbers' : List ℕ)
    → i < length taken → t ≡ get_or taken i t → r ≡ shown_row_at rows t.0
    → AddsMultiple p t.1 r.sources numbers numbers'
    → IsSame p (dense_sum key 0 numbers) (sources_sum key rows row (take i taken))
    → IsSame p (dense_sum key 0 numbers') (sources_sum key rows row (take (i + 1) taken))
sources_more {n} {p} key rows row taken i t r numbers numbers' lt is at a h =
    IsSame_trans (a.sum n key)
    (IsSame_trans (IsSame_append h (IsSame_refl p (scale t.1 (unit n) (row_sum key r.sources))))
    (IsSame_of p _ _ (sym (ap (sources_sum key rows row) (take_item taken i t lt is) ∙ sources_push key rows row (take i taken) t
    ∙ ap (λ (x : RowShown). sources_sum key rows row (take i taken) ++ scale t.1 (unit n) (row_sum key x.sources)) (sym at)))))

-- ---- entries as they are read
pub some_entries : {X : Type 0} (xs : List X) → false ≡ (length xs == 0) → 0 < length xs
some_entries [] e = absurd (true≢false (sym e))
some_entries (x ∷ xs) e = omega arith

pub first_residue_read : (es : List Entry) → (get_or es 0 (0, 0)).1 ≡ first_residue es
first_residue_read [] = refl
first_residue_read (y ∷ es) = refl
