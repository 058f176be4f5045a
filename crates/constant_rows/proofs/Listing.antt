-- The loop that reads sums by row off as constants
use Rattle.std.proofs.Common.{List, [], ap, arith, get_or, get_or-set_other, inl, inr, mod-eq_of_lt, refl, set, subst, sym, ℕ}
use Rattle.std.proofs.Common.{◌%◌, ◌*◌, ◌+◌, ◌++◌, ◌<◌, ◌∙◌, ◌∷◌, ◌≡◌, ◌≤◌, ◌⊎◌}
use Rattle.std.proofs.lemmas.Bool.{cases_eq}
use Rattle.std.proofs.lemmas.List.{map-append}
use Rattle.monomials.specs.Exponents.{unit}
use Rattle.formal_sums.proofs.Combining.{Each_map}
use Rattle.formal_sums.proofs.Sameness.{IsSame_of, IsSame_refl}
use Rattle.formal_sums.proofs.WeightedSums.{Each_append, coefficient-append, indicator_other, indicator_same}
use Rattle.formal_sums.specs.FormalSums.{Each, IsSame, coefficient, indicator}
use Rattle.constant_rows.proofs.Reading.{nothing_put, set_zero, taken_more}
use Rattle.constant_rows.specs.Rows.{entry_constants, row_constants}

-- what is listed and what the sums still stand for are the sums from the start, and a row that is listed has no sum
pub record AreListed (p : ℕ) (start sums : List ℕ) (entries : List (ℕ × ℕ)) (width : ℕ) : Type 0 where
  pub sum : (n : ℕ) → IsSame p (row_constants n 0 start) (entry_constants n entries ++ row_constants n 0 sums)
  pub below : Each (λ e. e.0 < width) entries
  pub reduced : Each (λ e. (0 < e.1) × (e.1 < p)) entries
  pub coefficients : (n : ℕ) → Each (λ e. coefficient (entry_constants n entries) (e.0, unit n) ≡ e.1) entries
  pub gone : Each (λ e. get_or sums e.0 0 ≡ 0) entries

pub none_listed : (p : ℕ) (start : List ℕ) (entries : List (ℕ × ℕ)) (width : ℕ) → entries ≡ [] → AreListed p start start entries width
none_listed p start entries width e = subst (λ z. AreListed p start start z width) (sym e) (record {
  sum = λ n. IsSame_refl p (row_constants n 0 start);
  below = tt;
  reduced = tt;
  coefficients = λ n. tt;
  gone = tt;
})

-- one constant more
entries_more : (n : ℕ) (entries : List (ℕ × ℕ)) (c r : ℕ) → entry_constants n (entries ++ (c, r) ∷ []) ≡ entry_constants n entries ++ ((c, unit n), r) ∷ []
entries_more n entries c r = map-append (λ (e : ℕ × ℕ). ((e.0, unit n), e.1)) entries ((c, r) ∷ [])

coefficient_one : (n a c r : ℕ) → (a ≡ c → ⊥) → coefficient {n = n} (((c, unit n), r) ∷ []) (a, unit n) ≡ 0
coefficient_one n a c r ne =
    let w : indicator (a, unit n) (c, unit n) ≡ 0 = indicator_other (a, unit n) (c, unit n) (λ e. ne (ap (λ k. k.0) e)) in
    ap (λ z. r * z + 0) w ∙ omega arith

-- a row that is not listed
coefficient_none : (n c : ℕ) (entries : List (ℕ × ℕ)) → Each (λ e. e.0 ≡ c → ⊥) entries → coefficient (entry_constants n entries) (c, unit n) ≡ 0
coefficient_none n c [] h = refl
coefficient_none n c (e ∷ entries) h =
    let w : indicator (c, unit n) (e.0, unit n) ≡ 0 = indicator_other (c, unit n) (e.0, unit n) (λ q. h.0 (sym (ap (λ k. k.0) q))) in
    let rest = coefficient_none n c entries h.1 in
    ap (λ z. e.1 * z + coefficient (entry_constants n entries) (c, unit n)) w ∙ omega (arith, rest)

-- the sum of row c is taken, whose residue is r
module _ (p : ℕ) (start sums : List ℕ) (entries : List (ℕ × ℕ)) (width c r : ℕ) (h : AreListed p start sums entries width)
    (is : r ≡ get_or sums c 0 % p) where
  still_gone : Each (λ e. get_or (set sums c 0) e.0 0 ≡ 0) entries
  still_gone = Each_map (λ e. get_or sums e.0 0 ≡ 0) (λ e. get_or (set sums c 0) e.0 0 ≡ 0) entries (λ e z. go e z (cases_eq e.0 c)) h.gone
    where
      go : (e : ℕ × ℕ) → get_or sums e.0 0 ≡ 0 → (e.0 ≡ c) ⊎ (e.0 ≡ c → ⊥) → get_or (set sums c 0) e.0 0 ≡ 0
      go e z (inl q) = ap (λ x. get_or (set sums c 0) x 0) q ∙ set_zero sums c
      go e z (inr ne) = get_or-set_other sums c e.0 0 0 ne ∙ z

  pub listed_kept : r ≡ 0 → AreListed p start (set sums c 0) entries width
  listed_kept z = record {
    sum = λ n. taken_more c r sums is start (entry_constants n entries) (entry_constants n entries) (h.sum n)
        (nothing_put p (entry_constants n entries) (c, unit n) r z);
    below = h.below;
    reduced = h.reduced;
    coefficients = h.coefficients;
    gone = still_gone;
  }

  -- its row was not listed before
  others : 0 < r → r < p → Each (λ e. e.0 ≡ c → ⊥) entries
  others lt small = Each_map (λ e. get_or sums e.0 0 ≡ 0) (λ e. e.0 ≡ c → ⊥) entries (λ e z q. at (sym (ap (λ x. get_or sums x 0) q) ∙ z)) h.gone
    where
      at : get_or sums c 0 ≡ 0 → ⊥
      at z =
          let none : r ≡ 0 = is ∙ ap (λ x. x % p) z ∙ mod-eq_of_lt (omega (arith, lt, small)) in
          absurd (omega (arith, lt, none))

  pub listed_more :
      (new : List (ℕ × ℕ)) (after : ℕ) → 0 < r → r < p → new ≡ entries ++ (c, r) ∷ [] → width ≤ after → c < after
      → AreListed p start (set sums c 0) new after
  listed_more new after lt small more le above = subst (λ z. AreListed p start (set sums c 0) z after) (sym more) (record {
    sum = λ n. taken_more c r sums is start (entry_constants n entries) (entry_constants n (entries ++ (c, r) ∷ [])) (h.sum n)
        (IsSame_of p _ _ (entries_more n entries c r));
    below = Each_append (λ (e : ℕ × ℕ). e.0 < after) entries ((c, r) ∷ [])
        (Each_map (λ (e : ℕ × ℕ). e.0 < width) (λ (e : ℕ × ℕ). e.0 < after) entries (λ e l. omega (arith, l, le)) h.below) (above, tt);
    reduced = Each_append (λ (e : ℕ × ℕ). (0 < e.1) × (e.1 < p)) entries ((c, r) ∷ []) h.reduced ((lt, small), tt);
    coefficients = coefficients;
    gone = Each_append (λ (e : ℕ × ℕ). get_or (set sums c 0) e.0 0 ≡ 0) entries ((c, r) ∷ []) still_gone (set_zero sums c, tt);
  })
    where
      at : (n a : ℕ) → coefficient (entry_constants n (entries ++ (c, r) ∷ [])) (a, unit n)
          ≡ coefficient (entry_constants n entries) (a, unit n) + coefficient {n = n} (((c, unit n), r) ∷ []) (a, unit n)
      at n a = ap (λ z. coefficient z (a, unit n)) (entries_more n entries c r)
          ∙ coefficient-append (entry_constants n entries) (((c, unit n), r) ∷ []) (a, unit n)

      before : (n : ℕ) (e : ℕ × ℕ) → (e.0 ≡ c → ⊥) → coefficient (entry_constants n entries) (e.0, unit n) ≡ e.1
          → coefficient (entry_constants n (entries ++ (c, r) ∷ [])) (e.0, unit n) ≡ e.1
      before n e ne q =
          let one = coefficient_one n e.0 c r ne in
          let sum = at n e.0 in
          omega (arith, one, sum, q)

      both : (n : ℕ) (es : List (ℕ × ℕ)) → Each (λ e. e.0 ≡ c → ⊥) es → Each (λ e. coefficient (entry_constants n entries) (e.0, unit n) ≡ e.1) es
          → Each (λ e. coefficient (entry_constants n (entries ++ (c, r) ∷ [])) (e.0, unit n) ≡ e.1) es
      both n [] f g = tt
      both n (e ∷ es) f g = (before n e f.0 g.0, both n es f.1 g.1)

      last : (n : ℕ) → coefficient (entry_constants n (entries ++ (c, r) ∷ [])) (c, unit n) ≡ r
      last n =
          let w : indicator (c, unit n) (c, unit n) ≡ 1 = indicator_same (c, unit n) (c, unit n) refl in
          let one : coefficient {n = n} (((c, unit n), r) ∷ []) (c, unit n) ≡ r = ap (λ z. r * z + 0) w ∙ omega arith in
          let none = coefficient_none n c entries (others lt small) in
          let sum = at n c in
          omega (arith, one, none, sum)

      coefficients : (n : ℕ) → Each (λ e. coefficient (entry_constants n (entries ++ (c, r) ∷ [])) (e.0, unit n) ≡ e.1) (entries ++ (c, r) ∷ [])
      coefficients n = Each_append (λ (e : ℕ × ℕ). coefficient (entry_constants n (entries ++ (c, r) ∷ [])) (e.0, unit n) ≡ e.1) entries ((c, r) ∷ [])
          (both n entries (others lt small) (h.coefficients n)) (last n, tt)
