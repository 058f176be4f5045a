-- Terms put into rows, column by column
use Rattle.std.proofs.Common.{List, [], ap, append-nil, append_assoc, arith, cond, false, get_or, length, refl, suc, sym, take, true, zero, Bool, ℕ, ◌++◌, ◌+◌, ◌<◌, ◌∙◌, ◌∷◌, ◌≡◌}
use Rattle.std.specs.Prelude.{nat_eq}
use Rattle.std.proofs.lemmas.List.{length-append}
use Rattle.term_lists.specs.declared.key.Key.{Key as CodeKey}
use Rattle.ext_modules.specs.Rows.{ArePut, AreRowsOf, entries_of, row_of}

abbrev pub Terms : Type 0
Terms = List (CodeKey × ℕ)

pub entries-append : (i j : ℕ) (v w : Terms) → entries_of i j (v ++ w) ≡ entries_of i j v ++ entries_of i j w
entries-append i j [] w = refl
entries-append i j (t ∷ v) w = go (nat_eq t.0.position i) (entries-append i j v w)
  where
    go :
        (b : Bool) → entries_of i j (v ++ w) ≡ entries_of i j v ++ entries_of i j w
        → ◌≡◌ {A = Terms} (cond b ((record { position = j; monomial = t.0.monomial }, t.1) ∷ entries_of i j (v ++ w)) (entries_of i j (v ++ w)))
        (cond b ((record { position = j; monomial = t.0.monomial }, t.1) ∷ entries_of i j v) (entries_of i j v) ++ entries_of i j w)
    go true e = ap (λ r. (record { position = j; monomial = t.0.monomial }, t.1) ∷ r) e
    go false e = e

-- one more term of the column
pub put_next :
    (j : ℕ) (done : Terms) (t : CodeKey × ℕ) (old mid new : List Terms) → ArePut j done old mid → ArePut j (t ∷ []) mid new
    → ArePut j (done ++ t ∷ []) old new
put_next j done t old mid new a b = record {
  count = b.count ∙ a.count;
  each = λ i lt.
      b.each i (let e = a.count in omega (arith, e, lt)) ∙ ap (λ z. z ++ entries_of i j (t ∷ [])) (a.each i lt)
      ∙ append_assoc (get_or old i []) (entries_of i j done) (entries_of i j (t ∷ [])) ∙ ap (λ z. get_or old i [] ++ z) (sym (entries-append i j done (t ∷ [])));
}

pub put_nothing : (j : ℕ) (old : List Terms) → ArePut j [] old old
put_nothing j old = record { count = refl; each = λ i lt. sym (append-nil (get_or old i [])) }

pub take_next : {X : Type 0} (d : X) (xs : List X) (i : ℕ) → i < length xs → take (i + 1) xs ≡ take i xs ++ get_or xs i d ∷ []
take_next {X = X} d xs i lt = let s : suc i ≡ i + 1 = omega arith in ap (λ z. take z xs) (sym s) ∙ go xs i lt
  where
    go : (xs : List X) (i : ℕ) → i < length xs → take (suc i) xs ≡ take i xs ++ get_or xs i d ∷ []
    go [] i lt = absurd (omega (arith, lt))
    go (x ∷ xs) zero lt = refl
    go (x ∷ xs) (suc i) lt = ap (λ z. x ∷ z) (go xs i (omega (arith, lt)))

-- one more row without terms
pub no_rows_next : (count : ℕ) (rows : List Terms) → AreRowsOf count [] rows → AreRowsOf (count + 1) [] (rows ++ [] ∷ [])
no_rows_next count rows h = record {
  count_is = length-append rows ([] ∷ []) ∙ ap (λ z. z + 1) h.count_is;
  each = λ i lt. nothing rows i (λ k. h.each i (let e = h.count_is in omega (arith, e, k)));
}
  where
    nothing : (rows : List Terms) (i : ℕ) → (i < length rows → get_or rows i [] ≡ []) → get_or (rows ++ [] ∷ []) i [] ≡ []
    nothing [] zero h = refl
    nothing [] (suc i) h = refl
    nothing (r ∷ rows) zero h = h (omega arith)
    nothing (r ∷ rows) (suc i) h = nothing rows i (λ lt. h (omega (arith, lt)))

-- one more column
pub row-append : (i j : ℕ) (columns : List Terms) (c : Terms) → row_of i j (columns ++ c ∷ []) ≡ row_of i j columns ++ entries_of i (j + length columns) c
row-append i j [] c = append-nil (entries_of i j c) ∙ ap (λ z. entries_of i z c) (let q : j ≡ j + 0 = omega arith in q)
row-append i j (d ∷ columns) c =
    let q : suc j + length columns ≡ j + suc (length columns) = omega arith in
    ap (λ z. entries_of i j d ++ z) (row-append i (suc j) columns c ∙ ap (λ z. row_of i (suc j) columns ++ entries_of i z c) q)
    ∙ sym (append_assoc (entries_of i j d) (row_of i (suc j) columns) (entries_of i (j + suc (length columns)) c))

pub column_next :
    (count : ℕ) (columns : List Terms) (j : ℕ) (c : Terms) (old new : List Terms) → j ≡ length columns → AreRowsOf count columns old → ArePut j c old new
    → AreRowsOf count (columns ++ c ∷ []) new
column_next count columns j c old new e rows put = record {
  count_is = put.count ∙ rows.count_is;
  each = λ i lt.
      let zero_plus : j ≡ 0 + length columns = omega (arith, e) in
      put.each i (let q = rows.count_is in omega (arith, q, lt)) ∙ ap (λ z. z ++ entries_of i j c) (rows.each i lt)
      ∙ ap (λ z. row_of i 0 columns ++ entries_of i z c) zero_plus ∙ sym (row-append i 0 columns c);
}
