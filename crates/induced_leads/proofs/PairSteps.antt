-- The steps of the loops that find the least leads
use Rattle.std.specs.Prelude.{Contains}
use Rattle.std.proofs.Common.{Greater, Less, List, None, Some, [], ap, ap₂, arith, drop, false, get_or, inl, inr, length, refl, subst, subst₂, suc, sym, take, true, zero, ℕ, ◌++◌, ◌+◌, ◌<◌, ◌≤◌, ◌∙◌, ◌∷◌, ◌≡◌, ◌⊎◌}
use Rattle.std.proofs.lemmas.Bool.{cases_lt}
use Rattle.std.proofs.lemmas.Cmp.{nat_list_cmp_total}
use Rattle.std.proofs.lemmas.List.{drop_all, drop_more, get_or_default, length-map, take_all}
use Rattle.std.proofs.lemmas.List.Sorted.{Contains-permutation, IsPermutation-sym, ranks_by, sorted_far}
use Rattle.std.specs.Cmp.{IsStrictWeakOrder}
use Rattle.std.specs.Cmp.Lexicographic.{slice_cmp}
use Rattle.std.specs.List.Sorted.{IsPermutation, IsSortedBy}
use Rattle.std.specs.Ordering.{is_lt, nat_cmp, ordering_reverse}
use Rattle.monomials.proofs.Monomials.{times-quotient}
use Rattle.monomials.specs.Exponents.{Divides, exponents_of, lcm, quotient}
use Rattle.formal_sums.specs.FormalSums.{Each}
use Rattle.orders.proofs.Lexicographic.{lex_order}
use Rattle.orders.specs.MonomialOrders.{lex}
use Rattle.bases.proofs.FreeTerms.{lead_of_zero}
use Rattle.bases.proofs.Leading.{IsLead_of_monic}
use Rattle.bases.specs.Leads.{IsMonicList, leads}
use Rattle.bases.specs.Settings.{IsLawful, Setting}
use Rattle.monomial_orders.proofs.Comparing.{lex-slice}
use Rattle.monomial_orders.specs.Kept.{IsWeighed, Monomial}
use Rattle.monomial_orders.specs.Monomials.{IsMonomial, IsQuotient}
use Rattle.term_lists.proofs.Scaling.{take_item}
use Rattle.term_lists.specs.Vectors.{key_of, sum_of, sums_of}
use Rattle.term_lists.specs.declared.key.Key.{Key as CodeKey}
use Rattle.term_lists.proofs.Parts.{Each_member}
use Rattle.module_vectors.specs.Trails.{lead_at}
use Rattle.vector_division.proofs.Members.{sums_at}
use Rattle.induced_leads.specs.Pairs.{AreLeastSoFar, ArePairMonomials, AreNonzero, IsPairMonomial, IsPairPut, IsPutUnlessCovered, RisesLex}
use Rattle.induced_leads.specs.Spans.{ArePast}
use Rattle.induced_leads.proofs.LeastLeads.{contains_cases, contains_left, contains_one, contains_only, contains_right, each_all, each_at, least_push, least_skip}

abbrev pub Terms : Type 0
Terms = List (CodeKey × ℕ)

-- ---- one pair
pub pair_divides :
    (a b l : Monomial) → IsMonomial (length a.exponents) (lcm (exponents_of (length a.exponents) a.exponents) (exponents_of (length a.exponents) b.exponents)) l.exponents
    → IsQuotient (length l.exponents) l a None → ⊥
pair_divides a b l h free =
    let A = exponents_of (length a.exponents) a.exponents in
    let B = exponents_of (length a.exponents) b.exponents in
    free (subst (λ n. Divides (exponents_of n a.exponents) (exponents_of n l.exponents)) (sym h.variables) (subst (Divides A) (sym h.exponents) (quotient (lcm A B) A, times-quotient A B)))

pub pair_quotient :
    (n : ℕ) (ws : List ℕ) (a b l m : Monomial) → IsWeighed n ws a
    → IsMonomial (length a.exponents) (lcm (exponents_of (length a.exponents) a.exponents) (exponents_of (length a.exponents) b.exponents)) l.exponents
    → IsQuotient (length l.exponents) l a (Some m)
    → exponents_of n m.exponents ≡ quotient (lcm (exponents_of n a.exponents) (exponents_of n b.exponents)) (exponents_of n a.exponents)
pair_quotient n ws a b l m wa h q =
    subst (λ k. exponents_of k m.exponents ≡ quotient (lcm (exponents_of k a.exponents) (exponents_of k b.exponents)) (exponents_of k a.exponents)) wa.variables
    (subst (λ k. exponents_of k m.exponents ≡ quotient (exponents_of k l.exponents) (exponents_of k a.exponents)) h.variables q.0.exponents
    ∙ ap (λ z. quotient z (exponents_of (length a.exponents) a.exponents)) h.exponents)

pub monomials_next :
    (n : ℕ) (ws : List ℕ) (cols : List Terms) (i j : ℕ) (a b : CodeKey) (old new : List Monomial)
    → ArePairMonomials n ws cols i j old → IsPairPut n ws a b old new → i < j
    → lead_at n cols i ≡ key_of n a → lead_at n cols j ≡ key_of n b
    → ArePairMonomials n ws cols i (j + 1) new
monomials_next n ws cols i j a b old new h (inl (ne, e)) lt la lb = record {
  each = λ m c. let r = h.each m (subst (λ z. Contains z m) e c) in (r.0, r.1, (let l = r.2 in omega (arith, l)), r.3);
  all = λ l il lj q. go l (cases_lt l j) il lj q;
}
  where
    go : (l : ℕ) → (l < j) ⊎ (j ≤ l) → i < l → l < j + 1 → (lead_at n cols i).0 ≡ (lead_at n cols l).0 → (m : Monomial) × Contains new m × IsPairMonomial n ws cols i l m
    go l (inl x) il lj q = let r = h.all l il x q in (r.0, subst (λ z. Contains z r.0) (sym e) r.1, r.2)
    go l (inr x) il lj q =
        let d : l ≡ j = omega (arith, x, lj) in
        absurd (ne (sym (ap (λ z. z.0) la) ∙ q ∙ ap (λ z. (lead_at n cols z).0) d ∙ ap (λ z. z.0) lb))
monomials_next n ws cols i j a b old new h (inr (same, (x, e, weighed, quotient_is))) lt la lb = record {
  each = λ m c. go m (contains_cases old (x ∷ []) m (subst (λ z. Contains z m) e c));
  all = λ l il lj q. there l (cases_lt l j) il lj q;
}
  where
    pair : IsPairMonomial n ws cols i j x
    pair = record {
      weighed = weighed;
      position = ap (λ z. z.0) la ∙ same ∙ sym (ap (λ z. z.0) lb);
      quotient_is = quotient_is ∙ sym (ap₂ (λ y z. quotient (lcm y z) y) (ap (λ z. z.1) la) (ap (λ z. z.1) lb));
    }

    go : (m : Monomial) → Contains old m ⊎ Contains (x ∷ []) m → (l : ℕ) × (i < l) × (l < j + 1) × IsPairMonomial n ws cols i l m
    go m (inl c) = let r = h.each m c in (r.0, r.1, (let l = r.2 in omega (arith, l)), r.3)
    go m (inr c) = (j, lt, omega arith, subst (IsPairMonomial n ws cols i j) (contains_only x m c) pair)

    there : (l : ℕ) → (l < j) ⊎ (j ≤ l) → i < l → l < j + 1 → (lead_at n cols i).0 ≡ (lead_at n cols l).0 → (m : Monomial) × Contains new m × IsPairMonomial n ws cols i l m
    there l (inl y) il lj q = let r = h.all l il y q in (r.0, subst (λ z. Contains z r.0) (sym e) (contains_left old (x ∷ []) r.0 r.1), r.2)
    there l (inr y) il lj q =
        let d : l ≡ j = omega (arith, y, lj) in
        (x, subst (λ z. Contains z x) (sym e) (contains_right old (x ∷ []) x (contains_one x)), subst (λ z. IsPairMonomial n ws cols i z x) (sym d) pair)

-- ---- the least ones
pub slices_weak : IsStrictWeakOrder (λ (a b : Monomial). is_lt (slice_cmp nat_cmp a.exponents b.exponents))
slices_weak = ranks_by nat_list_cmp_total (λ a. a.exponents)

no_monomial : Monomial
no_monomial = record { exponents = []; degree = 0 }

pub sorted_rise :
    (n : ℕ) (ws : List ℕ) (ms : List Monomial) → Each (IsWeighed n ws) ms → IsSortedBy (λ (a b : Monomial). is_lt (slice_cmp nat_cmp a.exponents b.exponents)) ms → RisesLex n ms
sorted_rise n ws ms lens sorted = from ms (λ i j lt le. far i j lt le)
  where
    len_at : (i : ℕ) → i < length ms → length (get_or ms i no_monomial).exponents ≡ n
    len_at i lt = (each_at (IsWeighed n ws) ms (get_or ms i no_monomial) lens (i, lt, get_or_default ms i (get_or ms i no_monomial) no_monomial lt)).variables

    far : (i j : ℕ) → i < j → j < length ms → lex (exponents_of n (get_or ms i no_monomial).exponents) (exponents_of n (get_or ms j no_monomial).exponents) ≡ Greater → ⊥
    far i j lt le g =
        let x = get_or ms i no_monomial in
        let y = get_or ms j no_monomial in
        let untold : is_lt (slice_cmp nat_cmp y.exponents x.exponents) ≡ false = sorted_far (λ (a b : Monomial). is_lt (slice_cmp nat_cmp a.exponents b.exponents)) slices_weak ms sorted i j no_monomial (omega (arith, lt)) le in
        let less : lex (exponents_of n y.exponents) (exponents_of n x.exponents) ≡ Less = (lex_order n).total.antisymm (exponents_of n y.exponents) (exponents_of n x.exponents) ∙ ap ordering_reverse g in
        let told : is_lt (slice_cmp nat_cmp y.exponents x.exponents) ≡ true = ap is_lt (lex-slice n y.exponents x.exponents (len_at j le) (len_at i (omega (arith, lt, le))) ∙ less) in
        cc

    each_from : (m : Monomial) (xs : List Monomial) → ((k : ℕ) → k < length xs → lex (exponents_of n m.exponents) (exponents_of n (get_or xs k no_monomial).exponents) ≡ Greater → ⊥) → Each (λ l. lex (exponents_of n m.exponents) (exponents_of n l.exponents) ≡ Greater → ⊥) xs
    each_from m [] h = tt
    each_from m (x ∷ xs) h = (h 0 (omega arith), each_from m xs (λ k lt. h (suc k) (omega arith)))

    from : (xs : List Monomial) → ((i j : ℕ) → i < j → j < length xs → lex (exponents_of n (get_or xs i no_monomial).exponents) (exponents_of n (get_or xs j no_monomial).exponents) ≡ Greater → ⊥) → RisesLex n xs
    from [] h = tt
    from (x ∷ xs) h = (each_from x xs (λ k lt. h 0 (suc k) (omega arith) (omega arith)), from xs (λ i j lt le. h (suc i) (suc j) (omega arith) (omega arith)))

pub least_next :
    (n : ℕ) (xs : List Monomial) (i : ℕ) (x : Monomial) (kept new : List Monomial)
    → AreLeastSoFar n (take i xs) (drop i xs) kept → i < length xs → x ≡ get_or xs i x → IsPutUnlessCovered n x kept new
    → AreLeastSoFar n (take (i + 1) xs) (drop (i + 1) xs) new
least_next n xs i x kept new h lt is t = subst (λ z. AreLeastSoFar n z (drop (i + 1) xs) new) (sym (take_item xs i x lt is)) (go t)
  where
    here : AreLeastSoFar n (take i xs) (x ∷ drop (i + 1) xs) kept
    here = subst (λ z. AreLeastSoFar n (take i xs) z kept) (drop_more xs i x lt ∙ ap (λ z. z ∷ drop (i + 1) xs) (sym is)) h

    go : IsPutUnlessCovered n x kept new → AreLeastSoFar n (take i xs ++ x ∷ []) (drop (i + 1) xs) new
    go (inl ((k, c, d), e)) = subst (AreLeastSoFar n (take i xs ++ x ∷ []) (drop (i + 1) xs)) (sym e) (least_skip n (take i xs) (drop (i + 1) xs) kept x here k c d)
    go (inr (free, e)) = subst (AreLeastSoFar n (take i xs ++ x ∷ []) (drop (i + 1) xs)) (sym e) (least_push n (take i xs) (drop (i + 1) xs) kept x here free)

contains_take : {X : Type 0} (xs : List X) (i : ℕ) (x : X) → Contains (take i xs) x → Contains xs x
contains_take xs zero x (j, lt, e) = absurd (omega (arith, lt))
contains_take [] (suc i) x c = c
contains_take (y ∷ xs) (suc i) x (zero, lt, e) = (0, omega arith, e)
contains_take (y ∷ xs) (suc i) x (suc j, lt, e) = let r = contains_take xs i x (j, omega arith, e) in (suc r.0, (let l = r.1 in omega (arith, l)), r.2)

pub kept_weighed :
    (n : ℕ) (ws : List ℕ) (xs kept : List Monomial) (i : ℕ) → AreLeastSoFar n (take i xs) (drop i xs) kept → Each (IsWeighed n ws) xs
    → Each (IsWeighed n ws) kept
kept_weighed n ws xs kept i h lens = each_all _ kept (λ k c. each_at (IsWeighed n ws) xs k lens (contains_take xs i k (h.inside k c)))

pub least_all :
    (n : ℕ) (xs ys kept : List Monomial) (i : ℕ) → length ys ≤ i → AreLeastSoFar n (take i ys) (drop i ys) kept → IsPermutation xs ys → AreLeastSoFar n xs [] kept
least_all n xs ys kept i le h moved =
    let a = subst₂ (λ x y. AreLeastSoFar n x y kept) (take_all i ys le) (drop_all i ys le) h in
    record {
      inside = λ m c. Contains-permutation ys xs m (IsPermutation-sym xs ys moved) (a.inside m c);
      covers = λ m c. a.covers m (Contains-permutation xs ys m moved c);
      apart = a.apart;
      up_to = each_all _ kept (λ k c. tt);
      rises = tt;
    }

pub weighed_of : (n : ℕ) (ws : List ℕ) (xs : List Monomial) (m : Monomial) (i : ℕ) → Each (IsWeighed n ws) xs → i < length xs → m ≡ get_or xs i m → IsWeighed n ws m
weighed_of n ws xs m i h lt is = each_at (IsWeighed n ws) xs m h (i, lt, sym is)

-- ---- the columns of a base
pub base_leads :
    (n : ℕ) (S : Setting n) → IsLawful S → (cols : List Terms) → IsMonicList S (sums_of n cols) → AreNonzero cols
base_leads n S lawful cols monic = each_index cols (λ k lt. go k (omega (arith, lt, length-map cols (λ v. sum_of n v))) (get_or cols k []) refl)
  where
    each_index : (xs : List Terms) → ((k : ℕ) → k < length xs → 0 < length (get_or xs k [])) → AreNonzero xs
    each_index [] h = tt
    each_index (x ∷ xs) h = (h 0 (omega arith), each_index xs (λ k lt. h (suc k) (omega arith)))

    go : (j : ℕ) → j < length (sums_of n cols) → (w : Terms) → get_or cols j [] ≡ w → 0 < length (get_or cols j [])
    go j lt [] e = absurd (lead_of_zero S (get_or (sums_of n cols) j []) (leads (sums_of n cols) j) (sums_at n cols j ∙ ap (sum_of n) e) (IsLead_of_monic S lawful (monic.monic j lt)))
    go j lt (t ∷ w) e = subst (λ z. 0 < length z) (sym e) (omega arith)

pub monomials_weighed : (n : ℕ) (ws : List ℕ) (cols : List Terms) (i j : ℕ) (ms : List Monomial) → ArePairMonomials n ws cols i j ms → Each (IsWeighed n ws) ms
monomials_weighed n ws cols i j ms h = each_all _ ms (λ m c. (h.each m c).3.weighed)

-- no later member stands at the position
pub monomials_end :
    (n : ℕ) (ws : List ℕ) (cols : List Terms) (i j end position : ℕ) (ms : List Monomial)
    → ArePairMonomials n ws cols i j ms → j ≤ length cols → end ≤ j → AreNonzero cols → (lead_at n cols i).0 ≡ position → ArePast cols position end
    → ArePairMonomials n ws cols i (length cols) ms
monomials_end n ws cols i j end position ms h inside le leads at past = record {
  each = λ m c. (let x = h.each m c in (x.0, x.1, (let l = x.2 in omega (arith, l, inside)), x.3));
  all = λ l lt in_l same. go l lt in_l same (cases_lt l j);
}
  where
    go :
        (l : ℕ) → i < l → l < length cols → (lead_at n cols i).0 ≡ (lead_at n cols l).0 → (l < j) ⊎ (j ≤ l)
        → (m : Monomial) × Contains ms m × IsPairMonomial n ws cols i l m
    go l lt in_l same (inl x) = h.all l lt x same
    go l lt in_l same (inr x) = absurd (past n l (omega (arith, le, x)) in_l (Each_member (λ v. 0 < length v) cols l [] leads in_l) (sym same ∙ at))

-- and the member itself does
pub before_end :
    (n : ℕ) (cols : List Terms) (i end position : ℕ) → i < length cols → AreNonzero cols → (lead_at n cols i).0 ≡ position → ArePast cols position end → i + 1 ≤ end
before_end n cols i end position lt leads at past = go (cases_lt i end)
  where
    go : (i < end) ⊎ (end ≤ i) → i + 1 ≤ end
    go (inl l) = omega (arith, l)
    go (inr g) = absurd (past n i g lt (Each_member (λ v. 0 < length v) cols i [] leads lt) at)
