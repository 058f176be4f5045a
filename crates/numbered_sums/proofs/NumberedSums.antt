-- Sums with a number for each key
use native.Mathlib.Nat.{zero-mod}
use Rattle.std.specs.Prelude.{Contains}
use Rattle.std.proofs.Common.{List, [], ap, append-nil, arith, drop, get_or, get_or-set_other, inl, inr, length, refl, replicate, set, subst, suc, sym, take, zero, ℕ, ◌%◌, ◌*◌, ◌+◌, ◌++◌, ◌<◌, ◌∙◌, ◌∷◌, ◌≡◌, ◌≤◌, ◌⊎◌}
use Rattle.std.proofs.lemmas.List.{append_assoc, drop_all, drop_more, get_or-set_same, length-set, map-append}
use Rattle.std.proofs.lemmas.Bool.{cases_eq}
use Rattle.residues.proofs.Congruences.{IsCongruent_add, IsCongruent_cancel, IsCongruent_multiply, IsCongruent_of, IsCongruent_refl, IsCongruent_sym, IsCongruent_trans}
use Rattle.residues.specs.Residues.{IsCongruent}
use Rattle.monomials.specs.Exponents.{unit}
use Rattle.formal_sums.proofs.Sameness.{IsSame_append, IsSame_of, IsSame_refl, IsSame_trans, scale-append, shift-unit}
use Rattle.formal_sums.proofs.WeightedSums.{coefficient-append}
use Rattle.formal_sums.specs.FormalSums.{Each, IsSame, Key, coefficient, indicator, scale, weighted_sum}
use Rattle.term_lists.proofs.Scaling.{Each_at, take_item}
use Rattle.row_matrix.specs.Rows.{Entry, row_sum}
use Rattle.numbered_sums.specs.KeySums.{AddsProduct, AreSmall, AreTouched, AreEntriesWithin, AreZeroSums, numbered_sum}

-- a number is written over another one
weighted_sum-set :
    {n : ℕ} (f : Key n → ℕ) (key : ℕ → Key n) (i c b : ℕ) (sums : List ℕ)
    → c < length sums
    → weighted_sum f (numbered_sum key i (set sums c b)) + get_or sums c 0 * f (key (i + c)) ≡ weighted_sum f (numbered_sum key i sums) + b * f (key (i + c))
weighted_sum-set f key i c b [] lt = absurd (omega arith)
weighted_sum-set f key i zero b (a ∷ sums) lt =
    let e : i + 0 ≡ i = omega arith in
    rw e (omega arith)
weighted_sum-set f key i (suc c) b (a ∷ sums) lt =
    let e : i + suc c ≡ (i + 1) + c = omega arith in
    let h = weighted_sum-set f key (i + 1) c b sums (omega arith) in
    rw e (omega (arith, h))

-- x is added to the sum at c, modulo p
added :
    {n p : ℕ} → 0 < p → (key : ℕ → Key n) (c b x : ℕ) (sums : List ℕ)
    → c < length sums → IsCongruent p b (get_or sums c 0 + x)
    → IsSame p (numbered_sum key 0 (set sums c b)) (numbered_sum key 0 sums ++ (key c, x) ∷ [])
added {n} {p} pos key c b x sums lt e = record {
  by_key = λ k.
      let w = indicator k (key c) in
      let a = get_or sums c 0 in
      let new = coefficient (numbered_sum key 0 (set sums c b)) k in
      let old = coefficient (numbered_sum key 0 sums) k in
      let z : 0 + c ≡ c = omega arith in
      let h : new + a * w ≡ old + b * w = subst (λ m. new + a * indicator k (key m) ≡ old + b * indicator k (key m)) z (weighted_sum-set (indicator k) key 0 c b sums lt) in
      IsCongruent_trans
      (IsCongruent_cancel pos (a * w)
      (IsCongruent_trans (IsCongruent_of p (a * w + new) (old + b * w) (omega (arith, h)))
      (IsCongruent_trans (IsCongruent_add (IsCongruent_refl p old) (IsCongruent_multiply e (IsCongruent_refl p w)))
      (IsCongruent_of p (old + (a + x) * w) (a * w + (old + (x * w + 0))) (omega arith)))))
      (IsCongruent_of p _ _ (sym (coefficient-append (numbered_sum key 0 sums) ((key c, x) ∷ []) k)));
}

-- a small number keeps the others small
pub Each_set : {X : Type 0} (P : X → Type 0) (xs : List X) (i : ℕ) (y : X) → Each P xs → P y → Each P (set xs i y)
Each_set P [] i y h q = tt
Each_set P (x ∷ xs) zero y h q = (q, h.1)
Each_set P (x ∷ xs) (suc i) y h q = (h.0, Each_set P xs i y h.1 q)

-- nothing is added yet
pub adds_nothing : (p factor : ℕ) (sums : List ℕ) → AddsProduct p factor [] sums sums
adds_nothing p factor sums = record {
  count = refl;
  sum = λ n key. IsSame_of p _ _ (sym (append-nil (numbered_sum key 0 sums)));
}

-- one entry more
adds_more :
    (p factor : ℕ) (done : List Entry) (e : Entry) (start sums : List ℕ) (b : ℕ)
    → 0 < p → AddsProduct p factor done start sums → e.0 < length start
    → IsCongruent p b (get_or sums e.0 0 + factor * e.1)
    → AddsProduct p factor (done ++ e ∷ []) start (set sums e.0 b)
adds_more p factor done e start sums b pos h lt c = record {
  count = length-set sums e.0 b ∙ h.count;
  sum = λ n key.
      let one : IsSame p (numbered_sum key 0 (set sums e.0 b)) (numbered_sum key 0 sums ++ (key e.0, factor * e.1) ∷ []) = added pos key e.0 b (factor * e.1) sums (omega (arith, h.count)) c in
      let back : scale factor (unit n) (row_sum key (done ++ e ∷ [])) ≡ scale factor (unit n) (row_sum key done) ++ (key e.0, factor * e.1) ∷ [] =
      ap (scale factor (unit n)) (map-append (λ (x : Entry). (key x.0, x.1)) done (e ∷ [])) ∙ scale-append factor (unit n) (row_sum key done) ((key e.0, e.1) ∷ []) ∙ ap (λ k. scale factor (unit n) (row_sum key done) ++ (k, factor * e.1) ∷ []) (shift-unit (key e.0)) in
      IsSame_trans one
      (IsSame_trans (IsSame_append (h.sum n key) (IsSame_refl p ((key e.0, factor * e.1) ∷ [])))
      (IsSame_of p _ _ (append_assoc (numbered_sum key 0 start) (scale factor (unit n) (row_sum key done)) ((key e.0, factor * e.1) ∷ []) ∙ ap (λ r. numbered_sum key 0 start ++ r) (sym back))));
}

-- the step of the loop
pub adds_step :
    (p factor : ℕ) (entries : List Entry) (i : ℕ) (e : Entry) (start sums : List ℕ) (b : ℕ)
    → 0 < p → AddsProduct p factor (take i entries) start sums → i < length entries → e ≡ get_or entries i e
    → AreEntriesWithin p (length start) entries → IsCongruent p b (get_or sums e.0 0 + factor * e.1)
    → AddsProduct p factor (take (i + 1) entries) start (set sums e.0 b)
adds_step p factor entries i e start sums b pos h lt at within c =
    subst (λ xs. AddsProduct p factor xs start (set sums e.0 b)) (sym (take_item entries i e lt at))
    (adds_more p factor (take i entries) e start sums b pos h (Each_at _ entries i e within lt at).0 c)

-- sums that are all 0
pub idle_sums : {n : ℕ} (p : ℕ) (key : ℕ → Key n) (i : ℕ) (sums : List ℕ) → AreZeroSums sums → IsSame p (numbered_sum key i sums) []
idle_sums p key i [] h = IsSame_refl p []
idle_sums {n} p key i (a ∷ sums) h = record {
  by_key = λ k. IsCongruent_trans
      (IsCongruent_add (IsCongruent_of p (a * indicator k (key i)) (0 * indicator k (key i)) (ap (λ x. x * indicator k (key i)) h.0)) ((idle_sums p key (i + 1) sums h.1).by_key k))
      (IsCongruent_of p (0 * indicator k (key i) + 0) 0 (omega arith));
}

pub idle_small : (sums : List ℕ) → AreZeroSums sums → AreSmall sums
idle_small [] h = tt
idle_small (a ∷ sums) h = (let z = h.0 in omega (arith, z), idle_small sums h.1)

pub idle_untouched : (sums : List ℕ) → AreZeroSums sums → AreTouched [] sums
idle_untouched [] h i lt = absurd (omega arith)
idle_untouched (a ∷ sums) h zero lt = inl h.0
idle_untouched (a ∷ sums) h (suc i) lt = go (idle_untouched sums h.1 i (omega arith))
  where
    go : (get_or sums i 0 ≡ 0) ⊎ Contains {X = ℕ} [] i → (get_or (a ∷ sums) (suc i) 0 ≡ 0) ⊎ Contains {X = ℕ} [] (suc i)
    go (inl e) = inl e
    go (inr (i', lt', e)) = absurd (omega (arith, lt'))

pub idle_zeros : (count : ℕ) → AreZeroSums (replicate count 0)
idle_zeros zero = tt
idle_zeros (suc count) = (refl, idle_zeros count)

-- another sum was touched
pub touched_more :
    (old new sums : List ℕ) (c b : ℕ) → AreTouched old sums → ((i : ℕ) → Contains old i → Contains new i) → (get_or sums c 0 ≡ 0 → Contains new c)
    → c < length sums → AreTouched new (set sums c b)
touched_more old new sums c b h kept here lt i l = go (cases_eq i c)
  where
    at_other : (i ≡ c → ⊥) → (get_or sums i 0 ≡ 0) ⊎ Contains old i → (get_or (set sums c b) i 0 ≡ 0) ⊎ Contains new i
    at_other ne (inl z) = inl (get_or-set_other sums c i b 0 ne ∙ z)
    at_other ne (inr t) = inr (kept i t)

    at_same : i ≡ c → (get_or sums c 0 ≡ 0) ⊎ Contains old c → (get_or (set sums c b) i 0 ≡ 0) ⊎ Contains new i
    at_same e (inl z) = inr (subst (Contains new) (sym e) (here z))
    at_same e (inr t) = inr (subst (Contains new) (sym e) (kept c t))

    go : (i ≡ c) ⊎ (i ≡ c → ⊥) → (get_or (set sums c b) i 0 ≡ 0) ⊎ Contains new i
    go (inl e) = at_same e (h c lt)
    go (inr ne) = at_other ne (h i (omega (arith, l, length-set sums c b)))

-- a sum that is 0 modulo p is set to 0
pub zeroed :
    {n p : ℕ} → 0 < p → (key : ℕ → Key n) (c : ℕ) (start sums : List ℕ) → c < length sums → IsCongruent p (get_or sums c 0) 0
    → IsSame p (numbered_sum key 0 start) (numbered_sum key 0 sums) → IsSame p (numbered_sum key 0 start) (numbered_sum key 0 (set sums c 0))
zeroed {n} {p} pos key c start sums lt z h =
    let one : IsSame p (numbered_sum key 0 (set sums c 0)) (numbered_sum key 0 sums ++ (key c, 0) ∷ []) =
    added pos key c 0 0 sums lt (IsCongruent_trans (IsCongruent_sym z) (IsCongruent_of p _ _ (omega arith))) in
    record {
      by_key = λ k.
          let s = coefficient (numbered_sum key 0 sums) k in
          IsCongruent_trans (h.by_key k)
          (IsCongruent_trans (IsCongruent_of p s (s + (0 * indicator k (key c) + 0)) (omega arith))
          (IsCongruent_trans (IsCongruent_of p _ _ (sym (coefficient-append (numbered_sum key 0 sums) ((key c, 0) ∷ []) k))) (IsCongruent_sym (one.by_key k))));
    }

-- a sum is set to 0, and its residue stands for it
pub taken_out :
    {n p : ℕ} → (key : ℕ → Key n) (c r : ℕ) (sums : List ℕ) → c < length sums → IsCongruent p (get_or sums c 0) r
    → IsSame p (numbered_sum key 0 sums) ((key c, r) ∷ numbered_sum key 0 (set sums c 0))
taken_out {n} {p} key c r sums lt e = record {
  by_key = λ k.
      let w = indicator k (key c) in
      let a = get_or sums c 0 in
      let new = coefficient (numbered_sum key 0 (set sums c 0)) k in
      let old = coefficient (numbered_sum key 0 sums) k in
      let z : 0 + c ≡ c = omega arith in
      let h : new + a * w ≡ old + 0 * w = subst (λ m. new + a * indicator k (key m) ≡ old + 0 * indicator k (key m)) z (weighted_sum-set (indicator k) key 0 c 0 sums lt) in
      IsCongruent_trans (IsCongruent_of p old (a * w + new) (omega (arith, h)))
      (IsCongruent_add (IsCongruent_multiply e (IsCongruent_refl p w)) (IsCongruent_refl p new));
}

-- what is not the first stands behind it
behind : (y : ℕ) (xs : List ℕ) (j : ℕ) → (j ≡ y → ⊥) → Contains (y ∷ xs) j → Contains xs j
behind y xs j ne (zero, lt, e) = absurd (ne (sym e))
behind y xs j ne (suc i, lt, e) = (i, omega (arith, lt), e)

-- one touched number less
pub zeroed_rest :
    (touched : List ℕ) (i : ℕ) (sums : List ℕ) → AreTouched (drop i touched) sums → i < length touched → get_or touched i 0 < length sums
    → AreTouched (drop (i + 1) touched) (set sums (get_or touched i 0) 0)
zeroed_rest touched i sums h lt there j l = go (cases_eq j (get_or touched i 0))
  where
    rest : AreTouched (get_or touched i 0 ∷ drop (i + 1) touched) sums
    rest = subst (λ xs. AreTouched xs sums) (drop_more touched i 0 lt) h

    other : (j ≡ get_or touched i 0 → ⊥) → (get_or sums j 0 ≡ 0) ⊎ Contains (get_or touched i 0 ∷ drop (i + 1) touched) j
        → (get_or (set sums (get_or touched i 0) 0) j 0 ≡ 0) ⊎ Contains (drop (i + 1) touched) j
    other ne (inl z) = inl (get_or-set_other sums (get_or touched i 0) j 0 0 ne ∙ z)
    other ne (inr t) = inr (behind (get_or touched i 0) (drop (i + 1) touched) j ne t)

    go : (j ≡ get_or touched i 0) ⊎ (j ≡ get_or touched i 0 → ⊥) → (get_or (set sums (get_or touched i 0) 0) j 0 ≡ 0) ⊎ Contains (drop (i + 1) touched) j
    go (inl e) = inl (ap (λ x. get_or (set sums (get_or touched i 0) 0) x 0) e ∙ get_or-set_same sums (get_or touched i 0) 0 0 there)
    go (inr ne) = other ne (rest j (omega (arith, l, length-set sums (get_or touched i 0) 0)))

-- all sums are 0 where no touched number is left
pub idle_rest : (touched : List ℕ) (i : ℕ) (sums : List ℕ) → AreTouched (drop i touched) sums → length touched ≤ i → AreZeroSums sums
idle_rest touched i sums h le = all sums (λ j lt. none j (subst (λ xs. AreTouched xs sums) (drop_all i touched le) h j lt))
  where
    none : (j : ℕ) → (get_or sums j 0 ≡ 0) ⊎ Contains {X = ℕ} [] j → get_or sums j 0 ≡ 0
    none j (inl z) = z
    none j (inr (i', lt', e)) = absurd (omega (arith, lt'))

    all : (xs : List ℕ) → ((j : ℕ) → j < length xs → get_or xs j 0 ≡ 0) → AreZeroSums xs
    all [] g = tt
    all (x ∷ xs) g = (g 0 (omega arith), all xs (λ j lt. g (suc j) (omega arith)))

-- what leaves no remainder is 0
pub no_remainder : (p q a : ℕ) → q ≡ p → a % q ≡ 0 → IsCongruent p a 0
no_remainder p q a e z = record { same = ap (λ x. a % x) (sym e) ∙ z ∙ sym (zero-mod p) }
