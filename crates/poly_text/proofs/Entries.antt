-- The entries of a vector as they are written
use Rattle.std.proofs.Common.{◌≡◌, ◌≢◌, ◌++◌, ◌+◌, ◌-◌, ◌<◌, cond, ◌≤◌, ◌==◌, ◌∙◌, Bool, true, false, List, [], ◌∷◌, ℕ, zero, suc, length, get_or, drop, take, map, refl, sym, ap, subst, arith, append_assoc, add-zero, if◌then◌else◌}
use Rattle.std.specs.List.{range_with_len}
use Rattle.std.proofs.lemmas.List.{append-nil, drop_more, drop_all}
use Rattle.std.proofs.lemmas.Bool.Decides.{nat_tests}
use Rattle.term_lists.specs.declared.key.Key.{Key}
use Rattle.poly_text.specs.Texts.{terms_at, entry_texts, joined, poly_text, term_text}
use Rattle.line_text.specs.Texts.{zero_entries}
use Rattle.poly_text.specs.Writing.{AscendsFrom, IsStretch, between, entries_rest, later_entries, tails, terms_rest}
use Rattle.poly_text.proofs.Writing.{joined_cons}
use Rattle.poly_text.proofs.Runs.{zeros_before}

-- before any term is written, the rest is the polynomial
pub terms_rest_all : (names : List (List ℕ)) (terms : List (Key × ℕ)) → terms_rest false (map (term_text names) terms) ≡ poly_text names terms
terms_rest_all names [] = refl
terms_rest_all names (t ∷ ts) = sym (joined_cons 43 (term_text names t) (map (term_text names) ts))

-- all terms were gone over, and some were written
pub entry_begun : (names : List (List ℕ)) (p n : ℕ) (terms : List (Key × ℕ)) (b : Bool) (out old : List ℕ) → length terms ≤ n → b ≡ true
    → out ++ terms_rest b (map (term_text names) (terms_at p (drop n terms))) ≡ old ++ terms_rest false (map (term_text names) (terms_at p terms))
    → out ≡ old ++ poly_text names (terms_at p terms)
entry_begun names p n terms b out old past begun known =
    let end = drop_all n terms past in
    sym (append-nil out) ∙ (rw (end, begun) at known) ∙ ap (λ r. old ++ r) (terms_rest_all names (terms_at p terms))

-- all terms were gone over, and none was written
pub entry_empty : (names : List (List ℕ)) (p n : ℕ) (terms : List (Key × ℕ)) (b : Bool) (out old new : List ℕ) → length terms ≤ n → b ≡ false
    → new ≡ out ++ 48 ∷ []
    → out ++ terms_rest b (map (term_text names) (terms_at p (drop n terms))) ≡ old ++ terms_rest false (map (term_text names) (terms_at p terms))
    → new ≡ old ++ poly_text names (terms_at p terms)
entry_empty names p n terms b out old new past begun is_new known =
    let end = drop_all n terms past in
    is_new ∙ (rw (end, begun) at known) ∙ ap (λ r. old ++ r) (terms_rest_all names (terms_at p terms))

-- a run that stops at place i
pub run_stops : (p : ℕ) (terms : List (Key × ℕ)) (i : ℕ) (t : Key × ℕ) → i < length terms → t ≡ get_or terms i t → t.0.position ≢ p
    → ((m : ℕ) → IsStretch p (drop i terms) m → IsStretch p terms (i + m)) → IsStretch p terms i
run_stops p terms i t below is other known =
    let here : drop i terms ≡ t ∷ drop (i + 1) terms = drop_more terms i t below ∙ ap (λ u. u ∷ drop (i + 1) terms) (sym is) in
    rw add-zero at (known 0 (rw here other))

-- a run that goes on at place i
pub run_more : (p : ℕ) (terms : List (Key × ℕ)) (i : ℕ) (t : Key × ℕ) → i < length terms → t ≡ get_or terms i t → t.0.position ≡ p
    → ((m : ℕ) → IsStretch p (drop i terms) m → IsStretch p terms (i + m)) → (m : ℕ) → IsStretch p (drop (i + 1) terms) m → IsStretch p terms (i + 1 + m)
run_more p terms i t below is same known m rest =
    let here : drop i terms ≡ t ∷ drop (i + 1) terms = drop_more terms i t below ∙ ap (λ u. u ∷ drop (i + 1) terms) (sym is) in
    let e : i + suc m ≡ i + 1 + m = omega arith in
    let P : ℕ → Type 0 = λ k. IsStretch p terms k in
    subst P e (known (suc m) (rw here (same, rest)))

-- a run to the end
pub run_ends : (p : ℕ) (terms : List (Key × ℕ)) (i : ℕ) → length terms ≤ i → i ≤ length terms
    → ((m : ℕ) → IsStretch p (drop i terms) m → IsStretch p terms (i + m)) → IsStretch p terms (length terms)
run_ends p terms i past within known =
    let end = drop_all i terms past in
    let e : i + 0 ≡ length terms = omega arith in
    let P : ℕ → Type 0 = λ k. IsStretch p terms k in
    subst P e (known 0 (rw end refl))

pub run_within : (p : ℕ) (terms : List (Key × ℕ)) (k : ℕ) → IsStretch p terms k → k ≤ length terms
run_within p [] k run = omega arith
run_within p (t ∷ ts) zero run = omega arith
run_within p (t ∷ ts) (suc k) run = let h = run_within p ts k run.1 in omega arith

-- nothing stands at a position below all
none_below : (p low : ℕ) (terms : List (Key × ℕ)) → p < low → AscendsFrom low terms → terms_at p terms ≡ []
none_below p low [] below up = refl
none_below p low (t ∷ ts) below up =
    let other : (t.0.position == p) ≡ false = grind (arith, nat_tests) in
    rw other (none_below p t.0.position ts (omega arith) up.1)

pub raised : (p low : ℕ) (terms : List (Key × ℕ)) → p ≤ low → AscendsFrom low terms → AscendsFrom p terms
raised p low [] h up = up
raised p low (t ∷ ts) h up = (omega arith, up.1)

-- a term that stands at the limit or beyond it, and those behind it
pub ascends_beyond : (limit p q : ℕ) (t : Key × ℕ) (terms ts : List (Key × ℕ)) → terms ≡ t ∷ ts → limit ≤ q → q ≡ t.0.position → AscendsFrom p terms → AscendsFrom limit terms
ascends_beyond limit p q t terms ts is far at up =
    let known : AscendsFrom p (t ∷ ts) = subst (AscendsFrom p) is up in
    let whole : AscendsFrom limit (t ∷ ts) = (omega arith, known.1) in
    subst (AscendsFrom limit) (sym is) whole

-- the terms behind one
pub ascends_further : (p q : ℕ) (t : Key × ℕ) (terms ts : List (Key × ℕ)) → terms ≡ t ∷ ts → q ≡ t.0.position → AscendsFrom p terms → AscendsFrom q ts
ascends_further p q t terms ts is at up =
    let known : AscendsFrom p (t ∷ ts) = subst (AscendsFrom p) is up in
    subst (λ j. AscendsFrom j ts) (sym at) known.1

-- of ascending terms, a run at the front is all that stands at its position
pub record Cuts (p : ℕ) (terms : List (Key × ℕ)) (k : ℕ) : Type 0 where
  pub here : terms_at p terms ≡ take k terms
  pub above : AscendsFrom (p + 1) (drop k terms)
  pub others : (q : ℕ) → p + 1 ≤ q → terms_at q terms ≡ terms_at q (drop k terms)

pub cuts : (p low : ℕ) (terms : List (Key × ℕ)) (k : ℕ) → p ≤ low → AscendsFrom low terms → IsStretch p terms k → Cuts p terms k
cuts p low [] zero h up run = record { here = refl; above = up; others = λ q _. refl }
cuts p low [] (suc k) h up run = absurd (omega arith)
cuts p low (t ∷ ts) zero h up run =
    let other : (t.0.position == p) ≡ false = grind (arith, nat_tests) in
    record {
      here = rw other (none_below p t.0.position ts (omega arith) up.1);
      above = (omega arith, up.1);
      others = λ q _. refl;
    }
cuts p low (t ∷ ts) (suc k) h up run =
    let more = cuts p t.0.position ts k (omega arith) up.1 run.1 in
    let same : (t.0.position == p) ≡ true = grind (arith, nat_tests) in
    record {
      here = rw same (ap (λ us. t ∷ us) more.here);
      above = more.above;
      others = λ q later. let other : (t.0.position == q) ≡ false = grind (arith, nat_tests) in rw other (more.others q later);
    }

-- entries that are the same from a position on
same_entries : (f g : ℕ → List ℕ) (a n : ℕ) → ((i : ℕ) → a ≤ i → f i ≡ g i) → map f (range_with_len a n) ≡ map g (range_with_len a n)
same_entries f g a zero same = refl
same_entries f g a (suc n) same =
    ap (λ x. x ∷ map f (range_with_len (a + 1) n)) (same a (omega arith)) ∙ ap (λ xs. g a ∷ xs) (same_entries f g (a + 1) n (λ i later. same i (omega arith)))

-- a term stands at no later position
stands_before : (t : Key × ℕ) (ts : List (Key × ℕ)) (i : ℕ) → t.0.position < i → terms_at i (t ∷ ts) ≡ terms_at i ts
stands_before t ts i before = let other : (t.0.position == i) ≡ false = grind (arith, nat_tests) in rw other refl

-- entries of two lists that have the same terms at each later position
later_same : (names : List (List ℕ)) (terms others : List (Key × ℕ)) (a n : ℕ) → ((i : ℕ) → a ≤ i → terms_at i terms ≡ terms_at i others)
    → later_entries names a n terms ≡ later_entries names a n others
later_same names terms others a n same =
    ap (tails 44) (same_entries (λ i. poly_text names (terms_at i terms)) (λ i. poly_text names (terms_at i others)) a n (λ i from. ap (poly_text names) (same i from)))

-- a term more of the entry that has begun
rest_same : (names : List (List ℕ)) (p more : ℕ) (t : Key × ℕ) (ts : List (Key × ℕ)) → t.0.position ≡ p
    → entries_rest names p more (t ∷ ts) ≡ 43 ∷ (term_text names t ++ entries_rest names p more ts)
rest_same names p more t ts here =
    let same : (t.0.position == p) ≡ true = grind (arith, nat_tests) in
    let further = tails 43 (map (term_text names) (terms_at p ts)) in
    ap (λ b. tails 43 (map (term_text names) (cond b (t ∷ terms_at p ts) (terms_at p ts))) ++ later_entries names (p + 1) more (t ∷ ts)) same
    ∙ ap (λ r. 43 ∷ r) (append_assoc (term_text names t) further (later_entries names (p + 1) more (t ∷ ts)))
    ∙ ap (λ r. 43 ∷ (term_text names t ++ (further ++ r))) (later_same names (t ∷ ts) ts (p + 1) more (λ i from. stands_before t ts i (omega arith)))

-- the first term of a later entry
rest_later : (names : List (List ℕ)) (p more less : ℕ) (t : Key × ℕ) (ts : List (Key × ℕ)) → p < t.0.position → AscendsFrom t.0.position ts
    → p + 1 + more ≡ t.0.position + 1 + less
    → entries_rest names p more (t ∷ ts) ≡ (zero_entries (t.0.position - (p + 1)) ++ 44 ∷ []) ++ (term_text names t ++ entries_rest names t.0.position less ts)
rest_later names p more less t ts beyond up count =
    let q = t.0.position in
    let n = q - (p + 1) in
    let f : ℕ → List ℕ = λ i. poly_text names (terms_at i (t ∷ ts)) in
    let whole : AscendsFrom q (t ∷ ts) = (omega arith, up) in
    let same : (t.0.position == q) ≡ true = grind (arith, nat_tests) in
    let further = tails 43 (map (term_text names) (terms_at q ts)) in
    let there : p + 1 + n ≡ q = omega arith in
    ap (λ us. tails 43 (map (term_text names) us) ++ later_entries names (p + 1) more (t ∷ ts)) (none_below p q (t ∷ ts) beyond whole)
    ∙ zeros_before f (p + 1) n (suc less) more (omega arith) (λ i from to. ap (poly_text names) (none_below i q (t ∷ ts) (omega arith) whole))
    ∙ ap (λ j. zero_entries n ++ tails 44 (map f (range_with_len j (suc less)))) there
    ∙ ap (λ b. zero_entries n ++ 44 ∷ (poly_text names (cond b (t ∷ terms_at q ts) (terms_at q ts)) ++ later_entries names (q + 1) less (t ∷ ts))) same
    ∙ ap (λ x. zero_entries n ++ 44 ∷ (x ++ later_entries names (q + 1) less (t ∷ ts))) (joined_cons 43 (term_text names t) (map (term_text names) (terms_at q ts)))
    ∙ ap (λ r. zero_entries n ++ 44 ∷ r) (append_assoc (term_text names t) further (later_entries names (q + 1) less (t ∷ ts)))
    ∙ ap (λ r. zero_entries n ++ 44 ∷ (term_text names t ++ (further ++ r))) (later_same names (t ∷ ts) ts (q + 1) less (λ i from. stands_before t ts i (omega arith)))
    ∙ sym (append_assoc (zero_entries n) (44 ∷ []) (term_text names t ++ entries_rest names q less ts))

-- a term comes next
rest_next : (names : List (List ℕ)) (rank p : ℕ) (t : Key × ℕ) (ts : List (Key × ℕ)) → t.0.position < rank → p ≤ t.0.position → AscendsFrom t.0.position ts
    → entries_rest names p (rank - (p + 1)) (t ∷ ts) ≡ between p t.0.position ++ (term_text names t ++ entries_rest names t.0.position (rank - (t.0.position + 1)) ts)
rest_next names rank p t ts within from up = go (t.0.position == p) refl where
  go : (b : Bool) → (t.0.position == p) ≡ b → entries_rest names p (rank - (p + 1)) (t ∷ ts)
      ≡ (if b then 43 ∷ [] else zero_entries (t.0.position - (p + 1)) ++ 44 ∷ []) ++ (term_text names t ++ entries_rest names t.0.position (rank - (t.0.position + 1)) ts)
  go true e =
      let here : t.0.position ≡ p = grind (arith, nat_tests) in
      rest_same names p (rank - (p + 1)) t ts here ∙ ap (λ q. 43 ∷ (term_text names t ++ entries_rest names q (rank - (q + 1)) ts)) (sym here)
  go false e =
      let other : t.0.position ≢ p = grind (arith, nat_tests) in
      rest_later names p (rank - (p + 1)) (rank - (t.0.position + 1)) t ts (omega arith) up (omega arith)

-- a step over a term
pub rest_step : (names : List (List ℕ)) (rank p q : ℕ) (t : Key × ℕ) (terms ts : List (Key × ℕ)) (out mid new whole : List ℕ) → q < rank → q ≡ t.0.position
    → terms ≡ t ∷ ts → AscendsFrom p terms → mid ≡ out ++ between p q → new ≡ mid ++ term_text names t
    → out ++ entries_rest names p (rank - (p + 1)) terms ≡ whole → new ++ entries_rest names q (rank - (q + 1)) ts ≡ whole
rest_step names rank p q t terms ts out mid new whole within at is ascending is_mid is_new known =
    let up : AscendsFrom p (t ∷ ts) = subst (AscendsFrom p) is ascending in
    let here = t.0.position in
    let more = entries_rest names here (rank - (here + 1)) ts in
    ap (λ j. new ++ entries_rest names j (rank - (j + 1)) ts) at ∙ ap (λ o. o ++ more) is_new ∙ append_assoc mid (term_text names t) more
    ∙ ap (λ o. o ++ (term_text names t ++ more)) is_mid ∙ append_assoc out (between p q) (term_text names t ++ more)
    ∙ ap (λ j. out ++ (between p j ++ (term_text names t ++ more))) at
    ∙ ap (λ r. out ++ r) (sym (rest_next names rank p t ts (omega arith) up.0 up.1)) ∙ ap (λ us. out ++ entries_rest names p (rank - (p + 1)) us) (sym is) ∙ known

-- no term comes any more
pub rest_ends : (names : List (List ℕ)) (rank p left : ℕ) (terms : List (Key × ℕ)) (out new whole : List ℕ) → p < rank → left ≡ rank - (p + 1) → AscendsFrom rank terms
    → new ≡ out ++ zero_entries left → out ++ entries_rest names p (rank - (p + 1)) terms ≡ whole → new ≡ whole
rest_ends names rank p left terms out new whole within is_left up is_new known =
    let more = rank - (p + 1) in
    let f : ℕ → List ℕ = λ i. poly_text names (terms_at i terms) in
    let none : entries_rest names p more terms ≡ zero_entries more
    = ap (λ us. tails 43 (map (term_text names) us) ++ later_entries names (p + 1) more terms) (none_below p rank terms within up)
    ∙ zeros_before f (p + 1) more 0 more (omega arith) (λ i from to. ap (poly_text names) (none_below i rank terms (omega arith) up))
    ∙ append-nil (zero_entries more) in
    is_new ∙ ap (λ n. out ++ zero_entries n) is_left ∙ ap (λ r. out ++ r) (sym none) ∙ known

-- the first entry and the others
pub entries_whole : (names : List (List ℕ)) (rank k : ℕ) (terms first others : List (Key × ℕ)) (old mid new : List ℕ) → 0 < rank → Cuts 0 terms k
    → first ≡ take k terms → others ≡ drop k terms → mid ≡ old ++ poly_text names first → new ≡ mid ++ entries_rest names 0 (rank - (0 + 1)) others
    → new ≡ old ++ joined 44 (entry_texts names rank terms)
entries_whole names zero k terms first others old mid new some cut is_first is_others is_mid is_new = absurd (omega arith)
entries_whole names (suc n) k terms first others old mid new some cut is_first is_others is_mid is_new =
    let f : ℕ → List ℕ = λ i. poly_text names (terms_at i terms) in
    let count : suc n - (0 + 1) ≡ n = omega arith in
    let start : poly_text names first ≡ f 0 = ap (poly_text names) (is_first ∙ sym cut.here) in
    let further : terms_at 0 (drop k terms) ≡ [] = none_below 0 1 (drop k terms) (omega arith) cut.above in
    is_new ∙ ap (λ us. mid ++ entries_rest names 0 (suc n - (0 + 1)) us) is_others ∙ ap (λ m. mid ++ entries_rest names 0 m (drop k terms)) count
    ∙ ap (λ us. mid ++ (tails 43 (map (term_text names) us) ++ later_entries names 1 n (drop k terms))) further
    ∙ ap (λ r. mid ++ r) (sym (later_same names terms (drop k terms) 1 n cut.others)) ∙ ap (λ o. o ++ later_entries names 1 n terms) is_mid
    ∙ append_assoc old (poly_text names first) (later_entries names 1 n terms) ∙ ap (λ x. old ++ (x ++ later_entries names 1 n terms)) start
    ∙ ap (λ r. old ++ r) (sym (joined_cons 44 (f 0) (map f (range_with_len 1 n))))

-- a term that is apart from the positions below a bound
pub none_nearer : (t : Key × ℕ) (terms ts : List (Key × ℕ)) (q : ℕ) → terms ≡ t ∷ ts → t.0.position ≢ q → terms_at q ts ≡ [] → terms_at q terms ≡ []
none_nearer t terms ts q is apart known =
    let other : (t.0.position == q) ≡ false = grind (arith, nat_tests) in
    ap (terms_at q) is ∙ ap (λ b. cond b (t ∷ terms_at q ts) (terms_at q ts)) other ∙ known

-- the entries from a position on, where the terms begin at another
later_from : (names : List (List ℕ)) (rank p q : ℕ) (terms : List (Key × ℕ)) → p ≤ q → q ≤ rank → ((i : ℕ) → p ≤ i → i < q → terms_at i terms ≡ [])
    → later_entries names p (rank - p) terms ≡ zero_entries (q - p) ++ later_entries names q (rank - q) terms
later_from names rank p q terms from within none =
    let there : p + (q - p) ≡ q = omega arith in
    zeros_before (λ i. poly_text names (terms_at i terms)) p (q - p) (rank - q) (rank - p) (omega arith)
    (λ i above below. ap (poly_text names) (none i above (omega arith)))
    ∙ ap (λ j. zero_entries (q - p) ++ later_entries names j (rank - q) terms) there

-- a step to the next entry with terms
pub later_step : (names : List (List ℕ)) (rank p q : ℕ) (terms : List (Key × ℕ)) (out mid new whole : List ℕ) → p ≤ q → q < rank
    → ((i : ℕ) → p ≤ i → i < q → terms_at i terms ≡ []) → mid ≡ out ++ (zero_entries (q - p) ++ 44 ∷ []) → new ≡ mid ++ poly_text names (terms_at q terms)
    → out ++ later_entries names p (rank - p) terms ≡ whole → new ++ later_entries names (q + 1) (rank - (q + 1)) terms ≡ whole
later_step names rank p q terms out mid new whole from within none is_mid is_new known =
    let less = rank - (q + 1) in
    let more = later_entries names (q + 1) less terms in
    let entry = poly_text names (terms_at q terms) in
    let gap = zero_entries (q - p) in
    let count : rank - q ≡ suc less = omega arith in
    let here : later_entries names q (rank - q) terms ≡ 44 ∷ (entry ++ more) = ap (λ n. later_entries names q n terms) count in
    ap (λ o. o ++ more) is_new ∙ append_assoc mid entry more ∙ ap (λ o. o ++ (entry ++ more)) is_mid
    ∙ append_assoc out (gap ++ 44 ∷ []) (entry ++ more) ∙ ap (λ r. out ++ r) (append_assoc gap (44 ∷ []) (entry ++ more) ∙ ap (λ r. gap ++ r) (sym here))
    ∙ ap (λ r. out ++ r) (sym (later_from names rank p q terms from (omega arith) none)) ∙ known

-- no entry with terms comes any more
pub later_ends : (names : List (List ℕ)) (rank p : ℕ) (terms : List (Key × ℕ)) (out new whole : List ℕ) → p ≤ rank → ((i : ℕ) → p ≤ i → i < rank → terms_at i terms ≡ [])
    → new ≡ out ++ zero_entries (rank - p) → out ++ later_entries names p (rank - p) terms ≡ whole → new ≡ whole
later_ends names rank p terms out new whole from none is_new known =
    let nothing : rank - rank ≡ 0 = omega arith in
    is_new ∙ ap (λ r. out ++ r) (sym (append-nil (zero_entries (rank - p))))
    ∙ ap (λ n. out ++ (zero_entries (rank - p) ++ later_entries names rank n terms)) (sym nothing)
    ∙ ap (λ r. out ++ r) (sym (later_from names rank p rank terms from (omega arith) none)) ∙ known

-- no entry is left
pub later_none : (names : List (List ℕ)) (rank p : ℕ) (terms : List (Key × ℕ)) (out whole : List ℕ) → rank ≤ p
    → out ++ later_entries names p (rank - p) terms ≡ whole → out ≡ whole
later_none names rank p terms out whole past known =
    let nothing : rank - p ≡ 0 = omega arith in
    sym (append-nil out) ∙ ap (λ n. out ++ later_entries names p n terms) (sym nothing) ∙ known

-- the first entry, and each other behind a comma
pub entries_first : (names : List (List ℕ)) (rank : ℕ) (terms : List (Key × ℕ)) (old mid new : List ℕ) → 0 < rank → mid ≡ old ++ poly_text names (terms_at 0 terms)
    → new ≡ mid ++ later_entries names 1 (rank - 1) terms → new ≡ old ++ joined 44 (entry_texts names rank terms)
entries_first names zero terms old mid new some is_mid is_new = absurd (omega arith)
entries_first names (suc n) terms old mid new some is_mid is_new =
    let f : ℕ → List ℕ = λ i. poly_text names (terms_at i terms) in
    let count : suc n - 1 ≡ n = omega arith in
    is_new ∙ ap (λ m. mid ++ later_entries names 1 m terms) count ∙ ap (λ o. o ++ later_entries names 1 n terms) is_mid
    ∙ append_assoc old (f 0) (later_entries names 1 n terms) ∙ ap (λ r. old ++ r) (sym (joined_cons 44 (f 0) (map f (range_with_len 1 n))))
