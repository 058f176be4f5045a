-- One product more in a sum with a number for each column
use Rattle.std.proofs.Common.{List, [], ap, append-nil, arith, drop, get_or, get_or-set_other, length, mul-le-mul, refl, set, subst, suc, sym, take, zero, ℕ, ◌*◌, ◌+◌, ◌++◌, ◌<◌, ◌∙◌, ◌∷◌, ◌^◌, ◌≡◌, ◌≤◌}
use Rattle.std.proofs.lemmas.List.{append_assoc, drop_more, get_or_default, length-set, map-append}
use Rattle.residues.proofs.Congruences.{IsCongruent_add, IsCongruent_cancel, IsCongruent_multiply, IsCongruent_of, IsCongruent_refl, IsCongruent_trans}
use Rattle.residues.specs.Residues.{IsCongruent}
use Rattle.monomials.specs.Exponents.{unit}
use Rattle.formal_sums.proofs.Sameness.{IsSame_append, IsSame_of, IsSame_refl, IsSame_trans, scale-append, shift-unit}
use Rattle.formal_sums.proofs.WeightedSums.{coefficient-append}
use Rattle.formal_sums.specs.FormalSums.{Each, IsSame, Key, coefficient, indicator, scale, weighted_sum}
use Rattle.term_lists.proofs.Scaling.{Each_at, take_item}
use Rattle.module_vectors.proofs.SumsOfProducts.{added_zero}
use Rattle.row_matrix.specs.Rows.{AreEntries, Entry, row_sum}
use Rattle.dense_reduction.proofs.Entries.{entries_from, entries_within}
use Rattle.dense_reduction.specs.Dense.{AddsMultiple, AreWithin, HasRoom, IsDense, dense_sum}

-- a number is written over another one
pub weighted_sum-dense_set :
    {n : ℕ} (f : Key n → ℕ) (key : ℕ → Key n) (i c b : ℕ) (acc : List ℕ)
    → c < length acc
    → weighted_sum f (dense_sum key i (set acc c b)) + get_or acc c 0 * f (key (i + c)) ≡ weighted_sum f (dense_sum key i acc) + b * f (key (i + c))
weighted_sum-dense_set f key i c b [] lt = absurd (omega arith)
weighted_sum-dense_set f key i zero b (a ∷ acc) lt =
    let e : i + 0 ≡ i = omega arith in
    rw e (omega arith)
weighted_sum-dense_set f key i (suc c) b (a ∷ acc) lt =
    let e : i + suc c ≡ (i + 1) + c = omega arith in
    let h = weighted_sum-dense_set f key (i + 1) c b acc (omega arith) in
    rw e (omega (arith, h))

-- x is added to the number at c, modulo p
pub dense_add :
    {n p : ℕ} → 0 < p → (key : ℕ → Key n) (c b x : ℕ) (acc : List ℕ)
    → c < length acc → IsCongruent p b (get_or acc c 0 + x)
    → IsSame p (dense_sum key 0 (set acc c b)) (dense_sum key 0 acc ++ (key c, x) ∷ [])
dense_add {n} {p} pos key c b x acc lt e = record {
  by_key = λ k.
      let w = indicator k (key c) in
      let a = get_or acc c 0 in
      let new = coefficient (dense_sum key 0 (set acc c b)) k in
      let old = coefficient (dense_sum key 0 acc) k in
      let z : 0 + c ≡ c = omega arith in
      let h : new + a * w ≡ old + b * w = subst (λ m. new + a * indicator k (key m) ≡ old + b * indicator k (key m)) z (weighted_sum-dense_set (indicator k) key 0 c b acc lt) in
      IsCongruent_trans
      (IsCongruent_cancel pos (a * w)
      (IsCongruent_trans (IsCongruent_of p (a * w + new) (old + b * w) (omega (arith, h)))
      (IsCongruent_trans (IsCongruent_add (IsCongruent_refl p old) (IsCongruent_multiply e (IsCongruent_refl p w)))
      (IsCongruent_of p (old + (a + x) * w) (a * w + (old + (x * w + 0))) (omega arith)))))
      (IsCongruent_of p _ _ (sym (coefficient-append (dense_sum key 0 acc) ((key c, x) ∷ []) k)));
}

-- a smaller number keeps the others small
pub Each_set : {X : Type 0} (P : X → Type 0) (xs : List X) (i : ℕ) (y : X) → Each P xs → P y → Each P (set xs i y)
Each_set P [] i y h q = tt
Each_set P (x ∷ xs) zero y h q = (q, h.1)
Each_set P (x ∷ xs) (suc i) y h q = (h.0, Each_set P xs i y h.1 q)

pub Each_front : {X : Type 0} (P : X → Type 0) (xs ys : List X) → Each P (xs ++ ys) → Each P xs
Each_front P [] ys h = tt
Each_front P (x ∷ xs) ys h = (h.0, Each_front P xs ys h.1)

pub Each_back : {X : Type 0} (P : X → Type 0) (xs ys : List X) → Each P (xs ++ ys) → Each P ys
Each_back P [] ys h = h
Each_back P (x ∷ xs) ys h = Each_back P xs ys h.1

-- nothing is added yet
pub adds_nothing : (p factor : ℕ) (acc : List ℕ) → AddsMultiple p factor [] acc acc
adds_nothing p factor acc = record {
  count = refl;
  sum = λ n key. IsSame_of p _ _ (sym (append-nil (dense_sum key 0 acc)));
  before = λ j _. refl;
}

-- 0 times entries is nothing
pub adds_none : (p factor : ℕ) (entries : List Entry) (acc : List ℕ) → factor ≡ 0 → AddsMultiple p factor entries acc acc
adds_none p factor entries acc z = record {
  count = refl;
  sum = λ n key. subst (λ f. IsSame p (dense_sum key 0 acc) (dense_sum key 0 acc ++ scale f (unit n) (row_sum key entries))) (sym z)
      (added_zero p (unit n) (dense_sum key 0 acc) (row_sum key entries));
  before = λ j _. refl;
}

-- one entry more
pub adds_more :
    (p factor : ℕ) (done : List Entry) (e : Entry) (start acc : List ℕ) (b : ℕ)
    → 0 < p → AddsMultiple p factor done start acc → e.0 < length start
    → IsCongruent p b (get_or acc e.0 0 + factor * e.1)
    → AddsMultiple p factor (done ++ e ∷ []) start (set acc e.0 b)
adds_more p factor done e start acc b pos h lt c = record {
  count = length-set acc e.0 b ∙ h.count;
  sum = λ n key.
      let one : IsSame p (dense_sum key 0 (set acc e.0 b)) (dense_sum key 0 acc ++ (key e.0, factor * e.1) ∷ []) = dense_add pos key e.0 b (factor * e.1) acc (omega (arith, h.count)) c in
      let back : scale factor (unit n) (row_sum key (done ++ e ∷ [])) ≡ scale factor (unit n) (row_sum key done) ++ (key e.0, factor * e.1) ∷ [] =
      ap (scale factor (unit n)) (map-append (λ (x : Entry). (key x.0, x.1)) done (e ∷ [])) ∙ scale-append factor (unit n) (row_sum key done) ((key e.0, e.1) ∷ []) ∙ ap (λ k. scale factor (unit n) (row_sum key done) ++ (k, factor * e.1) ∷ []) (shift-unit (key e.0)) in
      IsSame_trans one
      (IsSame_trans (IsSame_append (h.sum n key) (IsSame_refl p ((key e.0, factor * e.1) ∷ [])))
      (IsSame_of p _ _ (append_assoc (dense_sum key 0 start) (scale factor (unit n) (row_sum key done)) ((key e.0, factor * e.1) ∷ []) ∙ ap (λ r. dense_sum key 0 start ++ r) (sym back))));
  before = λ j q.
      let ne : j ≡ e.0 → ⊥ = λ f. (let l : j < e.0 = (Each_back _ done (e ∷ []) q).0 in omega arith) in
      get_or-set_other acc e.0 j b 0 ne ∙ h.before j (Each_front _ done (e ∷ []) q);
}

-- the step of the loop
pub adds_step :
    (p factor : ℕ) (entries : List Entry) (i : ℕ) (e : Entry) (start acc : List ℕ) (b : ℕ)
    → 0 < p → AddsMultiple p factor (take i entries) start acc → i < length entries → e ≡ get_or entries i e
    → AreWithin p (length start) entries → IsCongruent p b (get_or acc e.0 0 + factor * e.1)
    → AddsMultiple p factor (take (i + 1) entries) start (set acc e.0 b)
adds_step p factor entries i e start acc b pos h lt at within c =
    subst (λ xs. AddsMultiple p factor xs start (set acc e.0 b)) (sym (take_item entries i e lt at))
    (adds_more p factor (take i entries) e start acc b pos h (Each_at _ entries i e within lt at).0 c)

-- all are below the limit with one square more, and what is still to be added to is below the limit
pub record AreAddedTo (square limit : ℕ) (rest : List Entry) (acc : List ℕ) : Type 0 where
  pub small : IsDense (limit + square) acc
  pub ahead : Each (λ e. get_or acc e.0 0 < limit) rest

pub added_start :
    (p square limit low : ℕ) (es : List Entry) (acc : List ℕ) → AreEntries p low (length acc) es → IsDense limit acc
    → AreAddedTo square limit es acc
added_start p square limit low es acc h small = record {
  small = more acc small;
  ahead = ahead es (entries_within p low (length acc) es h);
}
  where
    more : (xs : List ℕ) → IsDense limit xs → IsDense (limit + square) xs
    more [] h = tt
    more (x ∷ xs) h = (omega (arith, h.0), more xs h.1)

    ahead : (es : List Entry) → AreWithin p (length acc) es → Each (λ e. get_or acc e.0 0 < limit) es
    ahead [] h = tt
    ahead (e ∷ es) h =
        (Each_at (λ a. a < limit) acc e.0 (get_or acc e.0 0) small h.0.0 (get_or_default acc e.0 0 (get_or acc e.0 0) h.0.0), ahead es h.1)

pub added_step :
    (p square limit high b : ℕ) (e : Entry) (rest : List Entry) (acc : List ℕ) → AreEntries p (e.0 + 1) high rest
    → b < limit + square → AreAddedTo square limit (e ∷ rest) acc → AreAddedTo square limit rest (set acc e.0 b)
added_step p square limit high b e rest acc es lt h = record {
  small = Each_set (λ a. a < limit + square) acc e.0 b h.small lt;
  ahead = ahead rest (entries_from p (e.0 + 1) high e.0 rest es (omega arith)) h.ahead.1;
}
  where
    ahead : (xs : List Entry) → Each (λ x. e.0 < x.0) xs → Each (λ x. get_or acc x.0 0 < limit) xs
        → Each (λ x. get_or (set acc e.0 b) x.0 0 < limit) xs
    ahead [] g k = tt
    ahead (x ∷ xs) g k =
        let ne : x.0 ≡ e.0 → ⊥ = λ f. (let l : e.0 < x.0 = g.0 in omega arith) in
        (subst (λ a. a < limit) (sym (get_or-set_other acc e.0 x.0 b 0 ne)) k.0, ahead xs g.1 k.1)

-- the entries from the one at i on
pub entries_drop :
    (p low high i : ℕ) (es : List Entry) → AreEntries p low high es → i < length es
    → AreEntries p ((get_or es i (0, 0)).0 + 1) high (drop (i + 1) es)
entries_drop p low high i [] h lt = absurd (omega arith)
entries_drop p low high zero (e ∷ es) h lt = h.3
entries_drop p low high (suc i) (e ∷ es) h lt =
    let r : suc i + 1 ≡ suc (i + 1) = omega arith in
    rw r (entries_drop p (e.0 + 1) high i es h.3 (omega arith))

-- the number to which the entry at i is added
pub added_at :
    (square limit : ℕ) (es : List Entry) (i : ℕ) (acc : List ℕ) → AreAddedTo square limit (drop i es) acc → i < length es
    → get_or acc (get_or es i (0, 0)).0 0 < limit
added_at square limit es i acc h lt =
    let g : Each (λ e. get_or acc e.0 0 < limit) (get_or es i (0, 0) ∷ drop (i + 1) es) =
    subst (Each (λ e. get_or acc e.0 0 < limit)) (drop_more es i (0, 0) lt) h.ahead in
    g.0

pub product_below : (p a b : ℕ) → a < p → b < p → a * b < p * p
product_below zero a b lt below = absurd (omega arith)
product_below (suc q) a b lt below =
    let h : a * b ≤ q * q = mul-le-mul (omega (arith, lt)) (omega (arith, below)) in
    omega (arith, h)

pub room_more : (p limit : ℕ) → HasRoom p limit → limit + p * p + p * p < 2 ^ 64 → HasRoom p (limit + p * p)
room_more p limit h lt = record {
  times = h.times + 1;
  multiple = ap (λ x. x + p * p) h.multiple ∙ omega arith;
  some = omega arith;
  room = lt;
}
