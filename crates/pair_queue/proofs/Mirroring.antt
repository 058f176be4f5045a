-- Tables that grow, or of which a flag changes
use Rattle.std.proofs.Common.{Bool, List, [], ap, arith, cond, eqb-true, false, get_or, inl, inr, length, nat_eq, ne_eqb, refl, suc, sym, true, zero}
use Rattle.std.proofs.Common.{ℕ, ◌&&◌, ◌<◌, ◌∙◌, ◌∷◌, ◌≡◌, ◌≤◌, ◌⊎◌}
use Rattle.std.specs.Prelude.{ltb}
use Rattle.std.proofs.lemmas.Bool.{cases_lt, cases_order, false≢true, le-ltb, lt-ltb, ltb-true}
use Rattle.basis_steps.proofs.Counting.{pair_ordered, pair_swapped}
use Rattle.basis_steps.specs.Pairs.{Pair, is_same_pair, pair_of}
use Rattle.pair_queue.specs.Rows.{FlagRowShown}
use Rattle.pair_queue.specs.Tables.{AreMirrored, AreWide, HasSameFlags, TableShown, flag, flag_in, has_at}

row_is : (rows : List FlagRowShown) (a : ℕ) (r : FlagRowShown) → a < length rows → r ≡ get_or rows a r → (c : ℕ) → get_or r.flags c false ≡ has_at rows a c
row_is [] a r l e c = absurd (omega arith)
row_is (s ∷ rows) zero r l e c = ap (λ (z : FlagRowShown). get_or z.flags c false) e
row_is (s ∷ rows) (suc a) r l e c = row_is rows a r (omega arith) e c

-- ---- the flags of a table
and_first : (a b : Bool) → (a && b) ≡ true → a ≡ true
and_first true b h = refl
and_first false b h = absurd (false≢true h)

and_second : (a b : Bool) → (a && b) ≡ true → b ≡ true
and_second true b h = h
and_second false b h = absurd (false≢true h)

and_none : (b : Bool) → (b && false) ≡ false
and_none true = refl
and_none false = refl

-- a pair with its flag has two members of the table
pub flag_within : (t : TableShown) (x : Pair) → flag t x ≡ true → (x.0 < x.1) × (x.1 < t.members)
flag_within t x h = (
  ltb-true x.0 x.1 (and_first (ltb x.0 x.1) (has_at t.rows x.1 x.0) (and_second (ltb x.1 t.members) (flag_in t.rows x) h)),
  ltb-true x.1 t.members
      (and_first (ltb x.1 t.members) (flag_in t.rows x) h),
)

-- no other pair has one in the rows
pub flag_is : (t : TableShown) → AreMirrored t → (x : Pair) → flag t x ≡ flag_in t.rows x
flag_is t m x = go (cases_lt x.1 t.members)
  where
    go : (x.1 < t.members) ⊎ (t.members ≤ x.1) → flag t x ≡ flag_in t.rows x
    go (inl l) = ap (λ b. b && flag_in t.rows x) (lt-ltb x.1 t.members l)
    go (inr l) = ap (λ b. b && flag_in t.rows x) (le-ltb x.1 t.members l) ∙ sym (ap (λ b. ltb x.0 x.1 && b) (m.clear x.1 x.0 l) ∙ and_none (ltb x.0 x.1))

-- the flags of one row
pub row_flag : (t : TableShown) → AreMirrored t → (a : ℕ) (r : FlagRowShown) → a < length t.rows → r ≡ get_or t.rows a r → (c : ℕ)
    → get_or r.flags c false ≡ flag t (pair_of a c)
row_flag t m a r l is c = row_is t.rows a r l is c ∙ m.mirrored a c ∙ sym (flag_is t m (pair_of a c))

-- with the same flags
same_flags : (old new : List FlagRowShown) → ((a c : ℕ) → has_at new a c ≡ has_at old a c) → (x : Pair) → flag_in new x ≡ flag_in old x
same_flags old new h x = ap (λ b. ltb x.0 x.1 && b) (h x.1 x.0)

-- rows that grew
module _ (t : TableShown) (rows : List FlagRowShown) (m : AreMirrored t) (more : length t.rows ≤ length rows) (wide : AreWide (length rows) rows)
    (same : (a c : ℕ) → has_at rows a c ≡ has_at t.rows a c) where
  pub still_mirrored : AreMirrored (record { members = t.members; rows = rows })
  still_mirrored = record {
    enough = omega (arith, m.enough, more);
    wide = wide;
    mirrored = λ a c. same a c ∙ m.mirrored a c ∙ sym (same_flags t.rows rows same (pair_of a c));
    clear = λ a c l. same a c ∙ m.clear a c l;
  }

pub no_change : (t : TableShown) → HasSameFlags t t
no_change t = record { sizes = refl; flags = λ x. refl }

-- more members
module _ (t : TableShown) (count : ℕ) (m : AreMirrored t) (more : t.members ≤ count) (room : count ≤ length t.rows) where
  pub grown_mirrored : AreMirrored (record { members = count; rows = t.rows })
  grown_mirrored = record { enough = room; wide = m.wide; mirrored = m.mirrored; clear = λ a c l. m.clear a c (omega (arith, l, more)) }

  pub grown_flags : (x : Pair) → flag (record { members = count; rows = t.rows }) x ≡ flag t x
  grown_flags x = flag_is (record { members = count; rows = t.rows }) grown_mirrored x ∙ sym (flag_is t m x)

-- one flag changed, in both rows
module _ (old mid new : List FlagRowShown) (i j : ℕ) (b : Bool) (lt : i < j)
    (first : (a c : ℕ) → has_at mid a c ≡ cond (nat_eq a j && nat_eq c i) b (has_at old a c))
    (second : (a c : ℕ) → has_at new a c ≡ cond (nat_eq a i && nat_eq c j) b (has_at mid a c)) where
  changed : (a c : ℕ) → has_at new a c ≡ cond (nat_eq a i && nat_eq c j) b (cond (nat_eq a j && nat_eq c i) b (has_at old a c))
  changed a c = second a c ∙ ap (λ z. cond (nat_eq a i && nat_eq c j) b z) (first a c)

  flag_changed : (x : Pair) → flag_in new x ≡ cond (is_same_pair x (i, j)) b (flag_in old x)
  flag_changed x = ap (λ z. ltb x.0 x.1 && z) (changed x.1 x.0)
      ∙ go (nat_eq x.0 i) refl (nat_eq x.1 j) refl (nat_eq x.1 i) refl (nat_eq x.0 j) refl (has_at old x.1 x.0)
    where
      go :
          (p : Bool) → nat_eq x.0 i ≡ p → (q : Bool) → nat_eq x.1 j ≡ q → (r : Bool) → nat_eq x.1 i ≡ r → (s : Bool) → nat_eq x.0 j ≡ s → (h : Bool)
          → (ltb x.0 x.1 && cond (nat_eq x.1 i && nat_eq x.0 j) b (cond (nat_eq x.1 j && nat_eq x.0 i) b h)) ≡ cond (nat_eq x.0 i && nat_eq x.1 j) b
          (ltb x.0 x.1 && h)
      go p ep q eq true er true es h = absurd_swap
        where
          less : x.1 < x.0
          less = omega (arith, eqb-true x.1 i er, eqb-true x.0 j es, lt)

          no_first : nat_eq x.0 i ≡ false
          no_first = not_same x.0 i (omega (arith, eqb-true x.0 j es, lt))
            where
              not_same : (a c : ℕ) → c < a → nat_eq a c ≡ false
              not_same a c l = by (nat_eq a c) refl
                where
                  by : (z : Bool) → nat_eq a c ≡ z → nat_eq a c ≡ false
                  by true e = absurd (omega (arith, eqb-true a c e, l))
                  by false e = e

          absurd_swap : (ltb x.0 x.1 && cond (nat_eq x.1 i && nat_eq x.0 j) b (cond (nat_eq x.1 j && nat_eq x.0 i) b h)) ≡ cond
              (nat_eq x.0 i && nat_eq x.1 j) b (ltb x.0 x.1 && h)
          absurd_swap = rw (le-ltb x.0 x.1 (omega (arith, less)), no_first) refl
      go p ep q eq true er false es h = rw (er, es) (rest p ep q eq)
        where
          rest : (p : Bool) → nat_eq x.0 i ≡ p → (q : Bool) → nat_eq x.1 j ≡ q
              → (ltb x.0 x.1 && cond (nat_eq x.1 j && nat_eq x.0 i) b h) ≡ cond (nat_eq x.0 i && nat_eq x.1 j) b (ltb x.0 x.1 && h)
          rest true ep true eq = rw (ep, eq, lt-ltb x.0 x.1 (omega (arith, eqb-true x.0 i ep, eqb-true x.1 j eq, lt))) refl
          rest true ep false eq = rw (ep, eq) refl
          rest false ep true eq = rw (ep, eq) refl
          rest false ep false eq = rw (ep, eq) refl
      go p ep q eq false er s es h = rw er (rest p ep q eq)
        where
          rest : (p : Bool) → nat_eq x.0 i ≡ p → (q : Bool) → nat_eq x.1 j ≡ q
              → (ltb x.0 x.1 && cond (nat_eq x.1 j && nat_eq x.0 i) b h) ≡ cond (nat_eq x.0 i && nat_eq x.1 j) b (ltb x.0 x.1 && h)
          rest true ep true eq = rw (ep, eq, lt-ltb x.0 x.1 (omega (arith, eqb-true x.0 i ep, eqb-true x.1 j eq, lt))) refl
          rest true ep false eq = rw (ep, eq) refl
          rest false ep true eq = rw (ep, eq) refl
          rest false ep false eq = rw (ep, eq) refl

  -- a row and its column change together
  mirrored_changed : ((a c : ℕ) → has_at old a c ≡ flag_in old (pair_of a c)) → (a c : ℕ) → has_at new a c ≡ flag_in new (pair_of a c)
  mirrored_changed h a c = elim (cases_order a c) [
    | inl e ↦ (let p : pair_of a c ≡ (a, a) = same a c e in changed a c ∙ here a c e
        ∙ sym (ap (flag_in new) p ∙ ap (λ z. z && has_at new a a) (le-ltb a a (omega arith))))
    | inr (inl l) ↦ changed a c ∙ swapped a c
        ∙ sym (ap (flag_in new) (pair_ordered a c l) ∙ ap (λ z. z && has_at new c a) (lt-ltb a c l) ∙ changed c a
        ∙ ap (λ z. cond (nat_eq c i && nat_eq a j) b (cond (nat_eq c j && nat_eq a i) b z))
        (sym (h a c ∙ ap (flag_in old) (pair_ordered a c l) ∙ ap (λ z. z && has_at old c a) (lt-ltb a c l))))
    | inr (inr l) ↦ sym (ap (flag_in new) (pair_swapped a c l) ∙ ap (λ z. z && has_at new a c) (lt-ltb c a l))
  ]
    where
      same : (a c : ℕ) → a ≡ c → pair_of a c ≡ (a, a)
      same a c e = λ k. (low k, high k)
        where
          low : (pair_of a c).0 ≡ a
          low = omega (arith, e)

          high : (pair_of a c).1 ≡ a
          high = omega (arith, e)

      swapped : (a c : ℕ) → cond (nat_eq a i && nat_eq c j) b (cond (nat_eq a j && nat_eq c i) b (has_at old a c)) ≡ cond (nat_eq c i && nat_eq a j) b
          (cond (nat_eq c j && nat_eq a i) b (has_at old a c))
      swapped a c = go (nat_eq a i) (nat_eq c j) (nat_eq a j) (nat_eq c i) (has_at old a c)
        where
          go : (p q r s h : Bool) → cond (p && q) b (cond (r && s) b h) ≡ cond (s && r) b (cond (q && p) b h)
          go true true true true h = refl
          go true true true false h = refl
          go true true false true h = refl
          go true true false false h = refl
          go true false true true h = refl
          go true false true false h = refl
          go true false false true h = refl
          go true false false false h = refl
          go false true true true h = refl
          go false true true false h = refl
          go false true false true h = refl
          go false true false false h = refl
          go false false true true h = refl
          go false false true false h = refl
          go false false false true h = refl
          go false false false false h = refl

      here : (a c : ℕ) → a ≡ c → cond (nat_eq a i && nat_eq c j) b (cond (nat_eq a j && nat_eq c i) b (has_at old a c)) ≡ false
      here a c e = go (nat_eq a i) refl (nat_eq c j) refl (nat_eq a j) refl (nat_eq c i) refl
        where
          old_none : has_at old a c ≡ false
          old_none = h a c ∙ ap (flag_in old) (same a c e) ∙ ap (λ z. z && has_at old a a) (le-ltb a a (omega arith))

          go : (p : Bool) → nat_eq a i ≡ p → (q : Bool) → nat_eq c j ≡ q → (r : Bool) → nat_eq a j ≡ r → (s : Bool) → nat_eq c i ≡ s
              → cond (nat_eq a i && nat_eq c j) b (cond (nat_eq a j && nat_eq c i) b (has_at old a c)) ≡ false
          go true ep true eq r er s es = absurd (omega (arith, eqb-true a i ep, eqb-true c j eq, e, lt))
          go p ep q eq true er true es = absurd (omega (arith, eqb-true a j er, eqb-true c i es, e, lt))
          go true ep false eq true er false es = rw (ep, eq, er, es) old_none
          go true ep false eq false er s es = rw (ep, eq, er) old_none
          go false ep q eq true er false es = rw (ep, er, es) old_none
          go false ep q eq false er s es = rw (ep, er) old_none

-- a table of which one flag changed
module _ (t : TableShown) (mid new : List FlagRowShown) (i j : ℕ) (b : Bool) (lt : i < j) (within : j < t.members) (m : AreMirrored t)
    (first : (a c : ℕ) → has_at mid a c ≡ cond (nat_eq a j && nat_eq c i) b (has_at t.rows a c))
    (second : (a c : ℕ) → has_at new a c ≡ cond (nat_eq a i && nat_eq c j) b (has_at mid a c))
    (len : length new ≡ length t.rows) (wide : AreWide (length new) new) where
  pub put_mirrored : AreMirrored (record { members = t.members; rows = new })
  put_mirrored = record {
    enough = omega (arith, m.enough, len);
    wide = wide;
    mirrored = mirrored_changed t.rows mid new i j b lt first second m.mirrored;
    clear = λ a c l.
        second a c ∙ ap (λ p. cond (p && nat_eq c j) b (has_at mid a c)) (ne_eqb a i (λ e. absurd (omega (arith, e, l, within, lt))))
        ∙ first a c ∙ ap (λ p. cond (p && nat_eq c i) b (has_at t.rows a c)) (ne_eqb a j (λ e. absurd (omega (arith, e, l, within)))) ∙ m.clear a c l;
  }

  pub put_flags : (x : Pair) → flag (record { members = t.members; rows = new }) x ≡ cond (is_same_pair x (i, j)) b (flag t x)
  put_flags x =
      flag_is (record { members = t.members; rows = new }) put_mirrored x
      ∙ flag_changed t.rows mid new i j b lt first second x
      ∙ ap (cond (is_same_pair x (i, j)) b) (sym (flag_is t m x))
