-- One product more in each row of numbers that stand side by side
use Rattle.std.proofs.Common.{List, [], arith, drop, get_or, get_or-set_other, inl, inr, length, refl, replicate, set, subst, sym, take, ℕ, ◌*◌, ◌+◌, ◌-◌, ◌<◌, ◌∙◌, ◌≡◌, ◌≤◌, ◌⊎◌}
use Rattle.std.proofs.Math.Seq.{map-set_same}
use Rattle.std.proofs.lemmas.Bool.{cases_eq}
use Rattle.std.proofs.lemmas.List.{drop_more, get_or-map, get_or-replicate, get_or-set_same, get_or_default, length-map, length-set, map-set}
use native.Mathlib.Nat.{mul-mod_left, zero-mod}
use Rattle.residues.proofs.Congruences.{IsCongruent_add, IsCongruent_of, IsCongruent_refl, IsCongruent_trans}
use Rattle.residues.specs.Residues.{IsCongruent}
use Rattle.term_lists.proofs.Scaling.{Each_at}
use Rattle.row_matrix.specs.Rows.{AreEntries, Entry}
use Rattle.dense_reduction.proofs.Adding.{AreAddedTo, Each_set, added_at, added_start, added_step, adds_nothing, adds_step, entries_drop, product_below}
use Rattle.dense_reduction.specs.Dense.{AddsMultiple, AreWithin, HasRoom, IsDense}
use Rattle.dense_reduction.specs.Eights.{AreDense, lane}

-- a row's number at a column
pub lane_at : (j i : ℕ) (numbers : List (List ℕ)) → i < length numbers → get_or (lane j numbers) i 0 ≡ get_or (get_or numbers i []) j 0
lane_at j i numbers lt = get_or-map (λ a. get_or a j 0) numbers i [] 0 lt

-- eight numbers are written at a column
pub lane_set : (j i : ℕ) (numbers : List (List ℕ)) (a : List ℕ) → lane j (set numbers i a) ≡ set (lane j numbers) i (get_or a j 0)
lane_set j i numbers a = map-set (λ a. get_or a j 0) numbers i a

-- the row's own number is the one that was there
pub lane_kept :
    (j i : ℕ) (numbers : List (List ℕ)) (a : List ℕ)
    → get_or a j 0 ≡ get_or (get_or numbers i []) j 0 → lane j (set numbers i a) ≡ lane j numbers
lane_kept j i numbers a e = map-set_same (λ a. get_or a j 0) numbers i a [] e

pub length_lane : (j : ℕ) (numbers : List (List ℕ)) → length (lane j numbers) ≡ length numbers
length_lane j numbers = length-map numbers (λ a. get_or a j 0)

-- a row's number is below the limit
pub dense_at :
    (limit j i : ℕ) (numbers : List (List ℕ)) → IsDense limit (lane j numbers) → i < length numbers → get_or (get_or numbers i []) j 0 < limit
dense_at limit j i numbers small lt =
    let inside : i < length (lane j numbers) = rw (length_lane j numbers) lt in
    let a = get_or (lane j numbers) i 0 in
    subst (λ x. x < limit) (lane_at j i numbers lt)
    (Each_at (λ x. x < limit) (lane j numbers) i a small inside (get_or_default (lane j numbers) i 0 a inside))

-- numbers below the limit are written at a column
pub dense_set :
    (limit i : ℕ) (numbers : List (List ℕ)) (a : List ℕ)
    → AreDense limit numbers → ((j : ℕ) → j < 8 → get_or a j 0 < limit) → AreDense limit (set numbers i a)
dense_set limit i numbers a small below = λ j q.
    rw (lane_set j i numbers a) (Each_set (λ x. x < limit) (lane j numbers) i (get_or a j 0) (small j q) (below j q))

-- the column and the residue of an entry
pub entry_at :
    (p count i : ℕ) (entries : List Entry)
    → AreWithin p count entries → i < length entries → ((get_or entries i (0, 0)).0 < count) × ((get_or entries i (0, 0)).1 < p)
entry_at p count i entries within lt =
    let e : Entry = get_or entries i (0, 0) in
    Each_at (λ (x : Entry). (x.0 < count) × (x.1 < p)) entries i e within lt (get_or_default entries i (0, 0) e lt)

-- one of eight numbers that are below the limit is written anew
pub set_below :
    (limit row x : ℕ) (old : List ℕ)
    → row < length old → x < limit → ((j : ℕ) → j < 8 → get_or old j 0 < limit) → (j : ℕ) → j < 8 → get_or (set old row x) j 0 < limit
set_below limit row x old lt here below j q = go (cases_eq j row)
  where
    go : (j ≡ row) ⊎ (j ≡ row → ⊥) → get_or (set old row x) j 0 < limit
    go (inl e) = rw (e, get_or-set_same old row x 0 lt) here
    go (inr n) = rw (get_or-set_other old row j x 0 n) (below j q)

-- one product more in a row's numbers
pub lane_step :
    (p factor : ℕ) (entries : List Entry) (i : ℕ) (e : Entry) (j : ℕ) (old new : List (List ℕ)) (a : List ℕ)
    → e ≡ get_or entries i (0, 0) → AddsMultiple p factor (take i entries) (lane j old) (lane j new) → i < length entries
    → AreWithin p (length old) entries → length new ≡ length old
    → IsCongruent p (get_or a j 0) (get_or (get_or new e.0 []) j 0 + factor * e.1)
    → AddsMultiple p factor (take (i + 1) entries) (lane j old) (lane j (set new e.0 a))
lane_step p factor entries i e j old new a is h lt within count c =
    let q : (e.0 < length old) × (e.1 < p) = rw is (entry_at p (length old) i entries within lt) in
    let inside : e.0 < length new = omega (arith, q.0) in
    let sum : IsCongruent p (get_or a j 0) (get_or (lane j new) e.0 0 + factor * e.1) =
    subst (λ x. IsCongruent p (get_or a j 0) (x + factor * e.1)) (sym (lane_at j e.0 new inside)) c in
    subst (AddsMultiple p factor (take (i + 1) entries) (lane j old)) (sym (lane_set j e.0 new a))
    (adds_step p factor entries i e (lane j old) (lane j new) (get_or a j 0) (omega (arith, q.1)) h lt
    (is ∙ get_or_default entries i (0, 0) e lt) (subst (λ n. AreWithin p n entries) (sym (length_lane j old)) within) sum)

-- the entries are added to the numbers of each row, times its factor
pub record AreAllAdded (p : ℕ) (factors : List ℕ) (entries : List Entry) (old new : List (List ℕ)) : Type 0 where
  pub count : length new ≡ length old
  pub adds : (j : ℕ) → j < 8 → AddsMultiple p (get_or factors j 0) entries (lane j old) (lane j new)
  pub idle : (j : ℕ) → j < 8 → get_or factors j 0 ≡ 0 → lane j new ≡ lane j old

-- nothing is added yet
pub all_none : (p : ℕ) (factors : List ℕ) (numbers : List (List ℕ)) → AreAllAdded p factors [] numbers numbers
all_none p factors numbers = record {
  count = refl;
  adds = λ j _. adds_nothing p (get_or factors j 0) (lane j numbers);
  idle = λ j _ _. refl;
}

-- eight numbers with a residue added, times each row's factor
pub record AreSums (p residue : ℕ) (factors old new : List ℕ) : Type 0 where
  pub congruent : (j : ℕ) → j < 8 → IsCongruent p (get_or new j 0) (get_or old j 0 + get_or factors j 0 * residue)
  pub idle : (j : ℕ) → j < 8 → get_or factors j 0 ≡ 0 → get_or new j 0 ≡ get_or old j 0

-- sums from which nothing is taken
pub exact_sums :
    (p residue : ℕ) (factors old new : List ℕ)
    → ((j : ℕ) → j < 8 → get_or new j 0 ≡ get_or old j 0 + residue * get_or factors j 0) → AreSums p residue factors old new
exact_sums p residue factors old new sums = record {
  congruent = λ j q. (let s = sums j q in IsCongruent_of p (get_or new j 0) (get_or old j 0 + get_or factors j 0 * residue) (omega (arith, s)));
  idle = λ j q z. (let s = sums j q in s ∙ rw z (omega arith));
}

-- one entry more
pub all_step :
    (p : ℕ) (factors : List ℕ) (entries : List Entry) (i : ℕ) (e : Entry) (old new : List (List ℕ)) (a : List ℕ)
    → e ≡ get_or entries i (0, 0) → AreAllAdded p factors (take i entries) old new → i < length entries
    → AreWithin p (length old) entries → AreSums p e.1 factors (get_or new e.0 []) a
    → AreAllAdded p factors (take (i + 1) entries) old (set new e.0 a)
all_step p factors entries i e old new a is h lt within sums = record {
  count = length-set new e.0 a ∙ h.count;
  adds = λ j q.
      lane_step p (get_or factors j 0) entries i e j old new a is (h.adds j q) lt within h.count (sums.congruent j q);
  idle = λ j q z. lane_kept j e.0 new a (sums.idle j q z) ∙ h.idle j q z;
}

-- the numbers to which entries are still to be added are below the limit, the others have one square more at most
abbrev pub AreAllFree : ℕ → ℕ → List Entry → List (List ℕ) → Type 0
AreAllFree p limit rest numbers = (j : ℕ) → j < 8 → AreAddedTo (p * p) limit rest (lane j numbers)

pub free_start :
    (p limit low : ℕ) (entries : List Entry) (numbers : List (List ℕ))
    → AreEntries p low (length numbers) entries → AreDense limit numbers → AreAllFree p limit entries numbers
free_start p limit low entries numbers h small = λ j q.
    added_start p (p * p) limit low entries (lane j numbers) (rw (length_lane j numbers) h) (small j q)

-- the numbers to which the entry at i is added
pub free_at :
    (p limit i : ℕ) (entries : List Entry) (numbers : List (List ℕ))
    → AreAllFree p limit (drop i entries) numbers → i < length entries → (get_or entries i (0, 0)).0 < length numbers
    → (j : ℕ) → j < 8 → get_or (get_or numbers (get_or entries i (0, 0)).0 []) j 0 < limit
free_at p limit i entries numbers h lt inside j q =
    subst (λ x. x < limit) (lane_at j (get_or entries i (0, 0)).0 numbers inside)
    (added_at (p * p) limit entries i (lane j numbers) (h j q) lt)

pub free_step :
    (p limit low high i : ℕ) (entries : List Entry) (numbers : List (List ℕ)) (a : List ℕ)
    → AreEntries p low high entries → i < length entries → ((j : ℕ) → j < 8 → get_or a j 0 < limit + p * p)
    → AreAllFree p limit (drop i entries) numbers → AreAllFree p limit (drop (i + 1) entries) (set numbers (get_or entries i (0, 0)).0 a)
free_step p limit low high i entries numbers a es lt below h = λ j q.
    let e : Entry = get_or entries i (0, 0) in
    subst (AreAddedTo (p * p) limit (drop (i + 1) entries)) (sym (lane_set j e.0 numbers a))
    (added_step p (p * p) limit high (get_or a j 0) e (drop (i + 1) entries) (lane j numbers) (entries_drop p low high i entries es lt) (below j q)
    (subst (λ xs. AreAddedTo (p * p) limit xs (lane j numbers)) (drop_more entries i (0, 0) lt) (h j q)))

-- a number below the limit and one product
pub sum_below :
    (p limit residue : ℕ) (factors old new : List ℕ)
    → residue < p → ((j : ℕ) → j < 8 → get_or factors j 0 < p) → ((j : ℕ) → j < 8 → get_or old j 0 < limit)
    → ((j : ℕ) → j < 8 → get_or new j 0 ≡ get_or old j 0 + residue * get_or factors j 0)
    → (j : ℕ) → j < 8 → get_or new j 0 < limit + p * p
sum_below p limit residue factors old new lt small below sums j q =
    let product = product_below p residue (get_or factors j 0) lt (small j q) in
    let b = below j q in
    let s = sums j q in
    omega (arith, product, b, s)

-- x is a number and a product of residues, or what is left when the limit is taken away
pub record IsSumBelow (p limit old factor residue x : ℕ) : Type 0 where
  pub small : x < limit
  pub congruent : IsCongruent p x (old + factor * residue)
  pub idle : factor ≡ 0 → x ≡ old

pub sum_kept :
    (p limit old factor residue x : ℕ)
    → x ≡ old + factor * residue → x < limit → IsSumBelow p limit old factor residue x
sum_kept p limit old factor residue x e lt = record {
  small = lt;
  congruent = IsCongruent_of p x (old + factor * residue) e;
  idle = λ z. e ∙ rw z (omega arith);
}

pub sum_less :
    (p limit old factor residue x : ℕ)
    → HasRoom p limit → old < limit → factor < p → residue < p → limit ≤ old + factor * residue → x ≡ old + factor * residue - limit
    → IsSumBelow p limit old factor residue x
sum_less p limit old factor residue x room small f r le e =
    let product = product_below p factor residue f r in
    let some = room.some in
    let multiple = room.multiple in
    let sum : x + room.times * p * p ≡ old + factor * residue = omega (arith, e, le, multiple) in
    record {
      small = omega (arith, e, le, small, product, some);
      congruent = IsCongruent_trans (IsCongruent_of p x (x + 0) (omega arith))
          (IsCongruent_trans (IsCongruent_add (IsCongruent_refl p x) (record { same = zero-mod p ∙ sym (mul-mod_left (room.times * p) p) }))
          (IsCongruent_of p (x + room.times * p * p) (old + factor * residue) sum));
      idle = λ z. absurd (let none : factor * residue ≡ 0 = rw z (omega arith) in omega (arith, le, small, none));
    }

-- one place more is filled
pub filled_more :
    (P : ℕ → ℕ → Type 0) (xs : List ℕ) (i y : ℕ)
    → i < length xs → ((k : ℕ) → k < i → P k (get_or xs k 0)) → P i y → (k : ℕ) → k < i + 1 → P k (get_or (set xs i y) k 0)
filled_more P xs i y lt below here k q = go (cases_eq k i)
  where
    go : (k ≡ i) ⊎ (k ≡ i → ⊥) → P k (get_or (set xs i y) k 0)
    go (inl e) = rw (e, get_or-set_same xs i y 0 lt) here
    go (inr n) = rw (get_or-set_other xs i k y 0 n) (below k (omega arith))

pub zero_at : (j : ℕ) → j < 8 → ◌≡◌ {A = ℕ} (get_or (replicate 8 0) j 0) 0
zero_at j q = get_or-replicate 8 j 0 0 q

-- a column more where all eight numbers are 0
pub zeros_more :
    (from c : ℕ) (numbers : List (List ℕ))
    → c < length numbers → ((j : ℕ) → j < 8 → get_or (get_or numbers c []) j 0 ≡ 0)
    → ((j i : ℕ) → j < 8 → from ≤ i → i < c → get_or (lane j numbers) i 0 ≡ 0)
    → (j i : ℕ) → j < 8 → from ≤ i → i < c + 1 → get_or (lane j numbers) i 0 ≡ 0
zeros_more from c numbers lt all zeros j i q low below = go (cases_eq i c)
  where
    go : (i ≡ c) ⊎ (i ≡ c → ⊥) → get_or (lane j numbers) i 0 ≡ 0
    go (inl e) = rw (e, lane_at j c numbers lt) (all j q)
    go (inr n) = zeros j i q low (omega arith)
