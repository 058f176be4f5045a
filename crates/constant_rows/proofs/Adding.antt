-- Sums by row, to which constants are added
use Rattle.std.specs.Prelude.{Contains, Err, Ok, OnOk, Result}
use Rattle.std.proofs.Common.{List, [], ap, append-nil, arith, get_or, get_or-set_other, inl, inr, length, refl, replicate, set, subst, suc, sym, take, zero, ℕ}
use Rattle.std.proofs.Common.{◌*◌, ◌+◌, ◌++◌, ◌<◌, ◌^◌, ◌∙◌, ◌∷◌, ◌≡◌, ◌⊎◌}
use Rattle.std.proofs.lemmas.List.{append_assoc, map-append}
use Rattle.std.proofs.lemmas.Bool.{cases_eq}
use Rattle.residues.proofs.Congruences.{IsCongruent_add, IsCongruent_cancel, IsCongruent_multiply, IsCongruent_of, IsCongruent_refl, IsCongruent_trans}
use Rattle.residues.specs.Residues.{IsCongruent}
use Rattle.monomials.specs.Exponents.{unit}
use Rattle.formal_sums.proofs.Sameness.{IsSame_append, IsSame_of, IsSame_refl, IsSame_trans, scale-append, shift-unit}
use Rattle.formal_sums.proofs.WeightedSums.{coefficient-append}
use Rattle.formal_sums.specs.FormalSums.{Each, FormalSum, IsSame, Key, coefficient, indicator, scale, weighted_sum}
use Rattle.term_lists.proofs.Scaling.{take_item}
use Rattle.constant_rows.specs.Rows.{AddsConstants, AreRowSums, AreZeros, entry_constants, row_constants}

-- a coefficient is written over another one
weighted_sum-set :
    {n : ℕ} (f : Key n → ℕ) (i c b : ℕ) (sums : List ℕ) → c < length sums
    → weighted_sum f (row_constants n i (set sums c b)) + get_or sums c 0 * f (i + c, unit n) ≡ weighted_sum f (row_constants n i sums) + b * f (i + c, unit n)
weighted_sum-set f i c b [] lt = absurd (omega arith)
weighted_sum-set {n} f i zero b (a ∷ sums) lt =
    let e : i + 0 ≡ i = omega arith in
    rw e (omega arith)
weighted_sum-set {n} f i (suc c) b (a ∷ sums) lt =
    let e : i + suc c ≡ (i + 1) + c = omega arith in
    let h = weighted_sum-set f (i + 1) c b sums (omega arith) in
    rw e (omega (arith, h))

-- x is added to the sum of row c, modulo p
added :
    {n p : ℕ} → 0 < p → (c b x : ℕ) (sums : List ℕ) → c < length sums → IsCongruent p b (get_or sums c 0 + x)
    → IsSame p (row_constants n 0 (set sums c b)) (row_constants n 0 sums ++ ((c, unit n), x) ∷ [])
added {n} {p} pos c b x sums lt e = record {
  by_key = λ k.
      let w = indicator k (c, unit n) in
      let a = get_or sums c 0 in
      let new = coefficient (row_constants n 0 (set sums c b)) k in
      let old = coefficient (row_constants n 0 sums) k in
      let z : 0 + c ≡ c = omega arith in
      let h : new + a * w ≡ old + b * w =
      subst (λ m. new + a * indicator k (m, unit n) ≡ old + b * indicator k (m, unit n)) z (weighted_sum-set (indicator k) 0 c b sums lt) in
      IsCongruent_trans
      (IsCongruent_cancel pos (a * w)
      (IsCongruent_trans (IsCongruent_of p (a * w + new) (old + b * w) (omega (arith, h)))
      (IsCongruent_trans (IsCongruent_add (IsCongruent_refl p old) (IsCongruent_multiply e (IsCongruent_refl p w)))
      (IsCongruent_of p (old + (a + x) * w) (a * w + (old + (x * w + 0))) (omega arith)))))
      (IsCongruent_of p _ _ (sym (coefficient-append (row_constants n 0 sums) (((c, unit n), x) ∷ []) k)));
}

-- ---- the loop over the entries
pub adds_nothing : (p factor : ℕ) (sums : List ℕ) → AddsConstants p factor [] sums sums
adds_nothing p factor sums = λ n. IsSame_of p _ _ (sym (append-nil (row_constants n 0 sums)))

pub adds_step :
    (p factor : ℕ) (entries : List (ℕ × ℕ)) (i : ℕ) (e : ℕ × ℕ) (start sums : List ℕ) (b : ℕ)
    → 0 < p → AddsConstants p factor (take i entries) start sums → i < length entries → e ≡ get_or entries i e → e.0 < length sums
    → IsCongruent p b (get_or sums e.0 0 + factor * e.1)
    → AddsConstants p factor (take (i + 1) entries) start (set sums e.0 b)
adds_step p factor entries i e start sums b pos h lt at inside c =
    subst (λ xs. AddsConstants p factor xs start (set sums e.0 b)) (sym (take_item entries i e lt at)) more
  where
    more : AddsConstants p factor (take i entries ++ e ∷ []) start (set sums e.0 b)
    more = λ n.
        let done = take i entries in
        let last : FormalSum n = ((e.0, unit n), factor * e.1) ∷ [] in
        let one : IsSame p (row_constants n 0 (set sums e.0 b)) (row_constants n 0 sums ++ last) = added pos e.0 b (factor * e.1) sums inside c in
        let back : scale factor (unit n) (entry_constants n (done ++ e ∷ [])) ≡ scale factor (unit n) (entry_constants n done) ++ last =
        ap (scale factor (unit n)) (map-append (λ (x : ℕ × ℕ). ((x.0, unit n), x.1)) done (e ∷ []))
        ∙ scale-append factor (unit n) (entry_constants n done) (((e.0, unit n), e.1) ∷ [])
        ∙ ap (λ k. scale factor (unit n) (entry_constants n done) ++ (k, factor * e.1) ∷ []) (shift-unit (e.0, unit n))
        in
        IsSame_trans one
        (IsSame_trans (IsSame_append (h n) (IsSame_refl p last))
        (IsSame_of p _ _ (append_assoc (row_constants n 0 start) (scale factor (unit n) (entry_constants n done)) last
        ∙ ap (λ r. row_constants n 0 start ++ r) (sym back))))

-- a small number keeps the others small
Each_set : {X : Type 0} (P : X → Type 0) (xs : List X) (i : ℕ) (y : X) → Each P xs → P y → Each P (set xs i y)
Each_set P [] i y h q = tt
Each_set P (x ∷ xs) zero y h q = (q, h.1)
Each_set P (x ∷ xs) (suc i) y h q = (h.0, Each_set P xs i y h.1 q)

-- another sum, whose row is touched
pub sums_more :
    (old new sums : List ℕ) (c b : ℕ) → AreRowSums sums old → b < 2 ^ 63 → ((i : ℕ) → Contains old i → Contains new i)
    → (get_or sums c 0 ≡ 0 → Contains new c) → AreRowSums (set sums c b) new
sums_more old new sums c b h lt kept here = record {
  small = Each_set (λ a. a < 2 ^ 63) sums c b h.small lt;
  touched_or_zero = λ i. go i (cases_eq i c);
}
  where
    at_other : (i : ℕ) → (i ≡ c → ⊥) → (get_or sums i 0 ≡ 0) ⊎ Contains old i → (get_or (set sums c b) i 0 ≡ 0) ⊎ Contains new i
    at_other i ne (inl z) = inl (get_or-set_other sums c i b 0 ne ∙ z)
    at_other i ne (inr t) = inr (kept i t)

    at_same : (i : ℕ) → i ≡ c → (get_or sums c 0 ≡ 0) ⊎ Contains old c → (get_or (set sums c b) i 0 ≡ 0) ⊎ Contains new i
    at_same i e (inl z) = inr (subst (Contains new) (sym e) (here z))
    at_same i e (inr t) = inr (subst (Contains new) (sym e) (kept c t))

    go : (i : ℕ) → (i ≡ c) ⊎ (i ≡ c → ⊥) → (get_or (set sums c b) i 0 ≡ 0) ⊎ Contains new i
    go i (inl e) = at_same i e (h.touched_or_zero c)
    go i (inr ne) = at_other i ne (h.touched_or_zero i)

-- ---- zeros, and zeros behind sums
pub zero_sums : (sums touched : List ℕ) → AreZeros sums → AreRowSums sums touched
zero_sums sums touched h = record { small = small sums h; touched_or_zero = λ i. inl (zeros sums i h) }
  where
    small : (xs : List ℕ) → AreZeros xs → Each (λ a. a < 2 ^ 63) xs
    small [] h = tt
    small (a ∷ xs) h = (let z = h.0 in omega (arith, z), small xs h.1)

    zeros : (xs : List ℕ) (i : ℕ) → AreZeros xs → get_or xs i 0 ≡ 0
    zeros [] i h = refl
    zeros (a ∷ xs) zero h = h.0
    zeros (a ∷ xs) (suc i) h = zeros xs i h.1

abbrev zeros : ℕ → List ℕ
zeros count = replicate count 0

zeros_at : (count i : ℕ) → ◌≡◌ {A = ℕ} (get_or (zeros count) i 0) 0
zeros_at zero i = refl
zeros_at (suc count) zero = refl
zeros_at (suc count) (suc i) = zeros_at count i

behind_at : (xs : List ℕ) (count i : ℕ) → ◌≡◌ {A = ℕ} (get_or (xs ++ zeros count) i 0) (get_or xs i 0)
behind_at [] count i = zeros_at count i
behind_at (x ∷ xs) count zero = refl
behind_at (x ∷ xs) count (suc i) = behind_at xs count i

coefficient-behind :
    {n : ℕ} (k : Key n) (i : ℕ) (xs : List ℕ) (count : ℕ)
    → coefficient (row_constants n i (xs ++ zeros count)) k ≡ coefficient (row_constants n i xs) k
coefficient-behind {n} k i [] zero = refl
coefficient-behind {n} k i [] (suc count) = let h : coefficient (row_constants n (i + 1) (zeros count)) k ≡ 0 = coefficient-behind k (i + 1) [] count in
    ap (λ z. 0 * indicator k (i, unit n) + z) h ∙ omega arith
coefficient-behind {n} k i (x ∷ xs) count = ap (λ z. x * indicator k (i, unit n) + z) (coefficient-behind k (i + 1) xs count)

module _ (old new touched : List ℕ) (count : ℕ) (is : new ≡ old ++ replicate count 0) where
  pub widened_sums : AreRowSums old touched → AreRowSums new touched
  widened_sums h = subst (λ z. AreRowSums z touched) (sym is) (record {
    small = small old h.small;
    touched_or_zero = λ i. subst (λ z. (z ≡ 0) ⊎ Contains touched i) (sym (behind_at old count i)) (h.touched_or_zero i);
  })
    where
      small_zeros : (count : ℕ) → Each (λ a. a < 2 ^ 63) (zeros count)
      small_zeros zero = tt
      small_zeros (suc count) = (omega arith, small_zeros count)

      small : (xs : List ℕ) → Each (λ a. a < 2 ^ 63) xs → Each (λ a. a < 2 ^ 63) (xs ++ zeros count)
      small [] h = small_zeros count
      small (x ∷ xs) h = (h.0, small xs h.1)

  pub widened_adds :
      (p factor : ℕ) (entries : List (ℕ × ℕ)) (after : List ℕ) → AddsConstants p factor entries new after → AddsConstants p factor entries old after
  widened_adds p factor entries after h = λ n.
      let same : IsSame p (row_constants n 0 new) (row_constants n 0 old) = record {
        by_key = λ k. IsCongruent_of p _ _ (ap (λ z. coefficient (row_constants n 0 z) k) is ∙ coefficient-behind k 0 old count);
      } in
      IsSame_trans (h n) (IsSame_append same (IsSame_refl p (scale factor (unit n) (entry_constants n entries))))

pub one_zero_more :
    (old new after : List ℕ) (count : ℕ) → new ≡ old ++ replicate count 0 → after ≡ new ++ 0 ∷ [] → after ≡ old ++ replicate (count + 1) 0
one_zero_more old new after count is more =
    more ∙ ap (λ z. z ++ 0 ∷ []) is ∙ append_assoc old (zeros count) (0 ∷ []) ∙ ap (λ z. old ++ z) (last count)
  where
    last : (count : ℕ) → ◌≡◌ {A = List ℕ} (zeros count ++ 0 ∷ []) (zeros (count + 1))
    last zero = refl
    last (suc count) = let e : suc count + 1 ≡ suc (count + 1) = omega arith in ap (λ z. 0 ∷ z) (last count) ∙ ap zeros (sym e)

pub on_ok : {X E : Type 0} (r : Result X E) (P Q : Type 0) → (P → Q) → OnOk r P → OnOk r Q
on_ok (Ok x) P Q f h = f h
on_ok (Err e) P Q f h = tt
