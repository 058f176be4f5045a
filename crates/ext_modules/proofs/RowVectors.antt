-- Rows as formal sums, and as vectors
use Rattle.std.proofs.Common.{Bool, List, [], ap, append-nil, append_assoc, ap₂, arith, cond, false, get_or, length, map, refl, subst, suc, sym, true, ℕ, ◌++◌, ◌<◌, ◌∙◌, ◌∷◌, ◌≡◌}
use Rattle.std.proofs.lemmas.List.{length-map, map-append}
use Rattle.std.specs.Prelude.{nat_eq}
use Rattle.monomials.specs.Exponents.{exponents_of}
use Rattle.formal_sums.proofs.WeightedSums.{Each_append}
use Rattle.formal_sums.specs.FormalSums.{Each, FormalSum, HasRank}
use Rattle.operation_laws.proofs.Linear.{Each_tabulate}
use Rattle.operation_laws.specs.Operations.{picked}
use Rattle.ext_laws.proofs.Kernels.{row_at, rows_count}
use Rattle.ext_laws.proofs.Rows.{entries, row_rank}
use Rattle.ext_laws.specs.Transposes.{row_from, rows_of}
use Rattle.term_lists.specs.Rings.{variables}
use Rattle.term_lists.specs.Vectors.{AreTermsOver, key_of, sum_of, sums_of}
use Rattle.term_lists.specs.declared.ring.Ring.{Ring}
use Rattle.vector_division.proofs.Members.{sums_at}
use Rattle.syzygy_engine.specs.Runs.{AreVectorsFor}
use Rattle.syzygy_engine.proofs.Marks.{sum-append}
use Rattle.ext_modules.specs.Rows.{AreRowsOf, entries_of, row_of}
use Rattle.ext_modules.proofs.Putting.{Terms}

-- ---- the formal sums of rows
sum_entries : (n i j : ℕ) (terms : Terms) → sum_of n (entries_of i j terms) ≡ entries i j (sum_of n terms)
sum_entries n i j [] = refl
sum_entries n i j (t ∷ terms) = go (nat_eq t.0.position i) (sum_entries n i j terms)
  where
    go :
        (b : Bool) → sum_of n (entries_of i j terms) ≡ entries i j (sum_of n terms)
        → ◌≡◌ {A = FormalSum n} (sum_of n (cond b ((record { position = j; monomial = t.0.monomial }, t.1) ∷ entries_of i j terms) (entries_of i j terms)))
        (map (λ u. ((j, u.0.1), u.1)) (cond b ((key_of n t.0, t.1) ∷ picked (λ k. nat_eq k i) (sum_of n terms)) (picked (λ k. nat_eq k i) (sum_of n terms))))
    go true e = ap (λ r. ((j, exponents_of n t.0.monomial.exponents), t.1) ∷ r) e
    go false e = e

sum_row : (n i j : ℕ) (columns : List Terms) → sum_of n (row_of i j columns) ≡ row_from i j (sums_of n columns)
sum_row n i j [] = refl
sum_row n i j (c ∷ columns) = sum-append n (entries_of i j c) (row_of i (suc j) columns) ∙ ap₂ ◌++◌ (sum_entries n i j c) (sum_row n i (suc j) columns)

pub one_list : {X : Type 0} (d : X) (xs ys : List X) → length xs ≡ length ys → ((i : ℕ) → i < length xs → get_or xs i d ≡ get_or ys i d) → xs ≡ ys
one_list d [] [] e h = refl
one_list d [] (y ∷ ys) e h = absurd (omega (arith, e))
one_list d (x ∷ xs) [] e h = absurd (omega (arith, e))
one_list d (x ∷ xs) (y ∷ ys) e h = ap₂ (λ a l. a ∷ l) (h 0 (omega arith)) (one_list d xs ys (omega (arith, e)) (λ i lt. h (suc i) (omega (arith, lt))))

pub rows_sums : (n count : ℕ) (columns rows : List Terms) → AreRowsOf count columns rows → sums_of n rows ≡ rows_of count (sums_of n columns)
rows_sums n count columns rows h =
    let all : length (sums_of n rows) ≡ count = length-map rows (λ v. sum_of n v) ∙ h.count_is in
    one_list [] (sums_of n rows) (rows_of count (sums_of n columns)) (all ∙ sym (rows_count count (sums_of n columns)))
    (λ i lt.
    let small : i < count = omega (arith, lt, all) in
    sums_at n rows i ∙ ap (sum_of n) (h.each i small) ∙ sum_row n i 0 columns ∙ sym (row_at count (sums_of n columns) i small))

-- ---- their terms are those of the columns
entries_over : (ring : Ring) (i j : ℕ) (terms : Terms) → AreTermsOver ring terms → AreTermsOver ring (entries_of i j terms)
entries_over ring i j [] h = tt
entries_over ring i j (t ∷ terms) h = go (nat_eq t.0.position i) (entries_over ring i j terms h.1)
  where
    go :
        (b : Bool) → AreTermsOver ring (entries_of i j terms)
        → AreTermsOver ring (cond b ((record { position = j; monomial = t.0.monomial }, t.1) ∷ entries_of i j terms) (entries_of i j terms))
    go true k = (h.0, k)
    go false k = k

row_over : (ring : Ring) (i j : ℕ) (columns : List Terms) → Each (AreTermsOver ring) columns → AreTermsOver ring (row_of i j columns)
row_over ring i j [] h = tt
row_over ring i j (c ∷ columns) h = Each_append _ (entries_of i j c) (row_of i (suc j) columns) (entries_over ring i j c h.0) (row_over ring i (suc j) columns h.1)

pub rows_over : (ring : Ring) (count : ℕ) (columns rows : List Terms) → AreRowsOf count columns rows → Each (AreTermsOver ring) columns → Each (AreTermsOver ring) rows
rows_over ring count columns rows h over = Each_tabulate (AreTermsOver ring) [] rows (λ i lt.
    subst (AreTermsOver ring) (sym (h.each i (let e = h.count_is in omega (arith, e, lt)))) (row_over ring i 0 columns over))

-- ---- vectors
-- these are put into order, and the others are left
pub record AreSortedTo (ring : Ring) (rows vectors left : List Terms) : Type 0 where
  pub done : List Terms
  pub whole : rows ≡ done ++ left
  pub stand : AreVectorsFor ring (sums_of (variables ring) done) vectors

pub one_more_sorted :
    (ring : Ring) (rows vectors new left : List Terms) (row : Terms) (rest : List Terms) → (h : AreSortedTo ring rows vectors left) → left ≡ row ∷ rest
    → AreVectorsFor ring (sums_of (variables ring) h.done ++ sum_of (variables ring) row ∷ []) new → AreSortedTo ring rows new rest
one_more_sorted ring rows vectors new left row rest h e stand = record {
  done = h.done ++ row ∷ [];
  whole = h.whole ∙ ap (λ z. h.done ++ z) e ∙ sym (append_assoc h.done (row ∷ []) rest);
  stand = subst (λ G. AreVectorsFor ring G new) (sym (map-append (λ u. sum_of (variables ring) u) h.done (row ∷ []))) stand;
}

pub all_sorted : (ring : Ring) (rows vectors left : List Terms) → AreSortedTo ring rows vectors left → left ≡ [] → AreVectorsFor ring (sums_of (variables ring) rows) vectors
all_sorted ring rows vectors left h e =
    subst (λ l. AreVectorsFor ring (sums_of (variables ring) l) vectors) (sym (h.whole ∙ ap (λ z. h.done ++ z) e ∙ append-nil h.done)) h.stand

pub rows_ranks : {n : ℕ} (count m : ℕ) (C : List (FormalSum n)) → m ≡ length C → Each (HasRank m) (rows_of count C)
rows_ranks {n} count m C e = Each_tabulate (HasRank m) [] (rows_of count C) (λ i lt.
    let small : i < count = let q = rows_count count C in omega (arith, q, lt) in
    subst (HasRank m) (sym (row_at count C i small)) (row_rank i 0 C m (omega (arith, e))))
