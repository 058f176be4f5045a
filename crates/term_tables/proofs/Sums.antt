-- Sums of tables and of packed terms
use Rattle.std.proofs.Common.{Err, IfOk, IfSome, List, None, Ok, Option, Result, Some, [], ap, ap₂, append_assoc, arith, get_or, inl, inr, length, refl, replicate, set, subst, subst₂, suc, sym, zero, ℕ, ◌%◌, ◌*◌, ◌++◌, ◌+◌, ◌-◌, ◌/◌, ◌<◌, ◌∙◌, ◌∷◌, ◌≡◌, ◌≤◌, ◌⊎◌}
use Rattle.std.proofs.Math.Nat.{div-add-mod}
use Rattle.std.proofs.lemmas.List.{append-nil, map-append}
use Rattle.std.proofs.lemmas.List.Sorted.{IsPermutation-map, sum_by-IsPermutation}
use Rattle.std.proofs.lemmas.List.Sums.{sum_by-cons}
use Rattle.std.specs.List.{sum_by}
use Rattle.std.specs.List.Sorted.{IsPermutation}
use Rattle.residues.proofs.Congruences.{IsCongruent_add, IsCongruent_mod, IsCongruent_multiply, IsCongruent_of, IsCongruent_refl, IsCongruent_sym, IsCongruent_trans}
use Rattle.residues.specs.Residues.{IsCongruent}
use Rattle.monomials.specs.Exponents.{times}
use Rattle.formal_sums.proofs.Sameness.{IsSame_append, IsSame_of, IsSame_refl, IsSame_sym, IsSame_trans}
use Rattle.formal_sums.proofs.WeightedSums.{Each_append, weighted_sum-append}
use Rattle.formal_sums.specs.FormalSums.{Each, FormalSum, IsSame, Key, Term, indicator, product, scale, weighted_sum}
use Rattle.term_lists.specs.Rings.{variables}
use Rattle.term_lists.specs.Vectors.{StandsFor, sum_of}
use Rattle.term_lists.specs.declared.key.Key.{Key as CodeKey}
use Rattle.term_lists.specs.declared.ring.Ring.{Ring}
use Rattle.term_tables.proofs.Numbers.{monomial_at-sum}
use Rattle.term_tables.specs.Digits.{HaveNoCarry, monomial_at, packed_sum}
use Rattle.term_tables.specs.Tables.{IsOpen, no_slot, ranked_sum, table_sum}

-- the key of a number
abbrev key_at : (n : ℕ) → List (ℕ × ℕ) → ℕ → Key n
key_at n bs k = (0, monomial_at n bs k)

first : (f c y v w : ℕ) → (c + y) * f + w ≡ c * f + (y * f + w)
first f c y v w = omega arith

exchange : (a b c : ℕ) → a + (b + c) ≡ b + (a + c)
exchange a b c = omega arith

-- a sum with c more at one place
table_set_weight :
    {n p : ℕ} (f : Key n → ℕ) (bs : List (ℕ × ℕ)) (from : ℕ) (sums : List ℕ) (k v c : ℕ) → k < length sums
    → IsCongruent p v (c + get_or sums k 0)
    → IsCongruent p (weighted_sum f (table_sum n bs from (set sums k v))) (c * f (key_at n bs (from + k)) + weighted_sum f (table_sum n bs from sums))
table_set_weight f bs from [] k v c lt e = absurd (omega arith)
table_set_weight {n} {p} f bs from (y ∷ sums) zero v c lt e =
    let here : key_at n bs (from + 0) ≡ key_at n bs from = ap (key_at n bs) (let z : from + 0 ≡ from = omega arith in z) in
    IsCongruent_trans (IsCongruent_add (IsCongruent_multiply e (IsCongruent_refl p (f (key_at n bs from)))) (IsCongruent_refl p (weighted_sum f (table_sum n bs (from + 1) sums))))
    (IsCongruent_of p _ _ (first (f (key_at n bs from)) c y v (weighted_sum f (table_sum n bs (from + 1) sums))
    ∙ ap (λ l. c * f l + (y * f (key_at n bs from) + weighted_sum f (table_sum n bs (from + 1) sums))) (sym here)))
table_set_weight {n} {p} f bs from (y ∷ sums) (suc k) v c lt e =
    let there : key_at n bs (from + 1 + k) ≡ key_at n bs (from + suc k) = ap (key_at n bs) (let z : from + 1 + k ≡ from + suc k = omega arith in z) in
    IsCongruent_trans (IsCongruent_add (IsCongruent_refl p (y * f (key_at n bs from))) (table_set_weight f bs (from + 1) sums k v c (omega arith) e))
    (IsCongruent_of p _ _ (exchange (y * f (key_at n bs from)) (c * f (key_at n bs (from + 1 + k))) (weighted_sum f (table_sum n bs (from + 1) sums))
    ∙ ap (λ l. c * f l + (y * f (key_at n bs from) + weighted_sum f (table_sum n bs (from + 1) sums))) there))

pub table_set :
    (n p : ℕ) (bs : List (ℕ × ℕ)) (sums : List ℕ) (k v c : ℕ) → k < length sums → IsCongruent p v (c + get_or sums k 0)
    → IsSame p (table_sum n bs 0 (set sums k v)) (((0, monomial_at n bs k), c) ∷ table_sum n bs 0 sums)
table_set n p bs sums k v c lt e = record {
  by_key = λ x. IsCongruent_trans (table_set_weight (indicator x) bs 0 sums k v c lt e)
      (IsCongruent_of p _ _ (ap (λ j. c * indicator x (key_at n bs j) + weighted_sum (indicator x) (table_sum n bs 0 sums)) (let z : 0 + k ≡ k = omega arith in z)));
}

-- one term more
pub IsSame_cons : {n p : ℕ} (t : Term n) {v w : FormalSum n} → IsSame p v w → IsSame p (t ∷ v) (t ∷ w)
IsSame_cons {n} {p} t h = record { by_key = λ x. IsCongruent_add (IsCongruent_refl p (t.1 * indicator x t.0)) (h.by_key x) }

-- from behind a vector to its front
pub IsSame_front : {n : ℕ} (p : ℕ) (v w u : FormalSum n) → IsSame p (v ++ (w ++ u)) ((w ++ v) ++ u)
IsSame_front p v w u = record {
  by_key = λ x. IsCongruent_of p _ _ (
      weighted_sum-append (indicator x) v (w ++ u) ∙ ap (λ y. weighted_sum (indicator x) v + y) (weighted_sum-append (indicator x) w u)
      ∙ exchange (weighted_sum (indicator x) v) (weighted_sum (indicator x) w) (weighted_sum (indicator x) u)
      ∙ regroup (weighted_sum (indicator x) w) (weighted_sum (indicator x) v) (weighted_sum (indicator x) u)
      ∙ ap (λ y. y + weighted_sum (indicator x) u) (sym (weighted_sum-append (indicator x) w v)) ∙ sym (weighted_sum-append (indicator x) (w ++ v) u));
}
  where
    regroup : (a b c : ℕ) → a + (b + c) ≡ a + b + c
    regroup a b c = omega arith

-- a multiple of the modulus less
pub added_less : (p q sum rest c : ℕ) → q ≤ sum → rest ≡ sum - q → IsCongruent p q 0 → IsCongruent p (rest + c) (c + sum)
added_less p q sum rest c le e z =
    IsCongruent_trans (IsCongruent_of p _ _ (let f : rest + c ≡ 0 + (rest + c) = omega arith in f))
    (IsCongruent_trans (IsCongruent_add (IsCongruent_sym z) (IsCongruent_refl p (rest + c))) (IsCongruent_of p _ _ (let f : q + (rest + c) ≡ c + sum = omega arith in f)))

-- a term with another coefficient that is congruent
same_residue : (n p : ℕ) (k : Key n) (r s : ℕ) (v : FormalSum n) → IsCongruent p r s → IsSame p ((k, r) ∷ v) ((k, s) ∷ v)
same_residue n p k r s v e = record {
  by_key = λ x. IsCongruent_add (IsCongruent_multiply e (IsCongruent_refl p (indicator x k))) (IsCongruent_refl p (weighted_sum (indicator x) v));
}

-- a term with its residue
with_residue : (n p : ℕ) (k : Key n) (r s : ℕ) (v : FormalSum n) → r ≡ s % p → IsSame p ((k, r) ∷ v) ((k, s) ∷ v)
with_residue n p k r s v e = same_residue n p k r s v (IsCongruent_trans (IsCongruent_of p _ _ e) (IsCongruent_mod p s))

no_term : (n p : ℕ) (k : Key n) (v : FormalSum n) → IsSame p v ((k, 0) ∷ v)
no_term n p k v = record { by_key = λ x. IsCongruent_of p _ _ (let f : (i w : ℕ) → w ≡ 0 * i + w = (λ i w. omega arith) in f (indicator x k) (weighted_sum (indicator x) v)) }

-- one sum more: its term behind the others, where its residue is not 0
pub ranked_more :
    (n p : ℕ) (bs : List (ℕ × ℕ)) (terms : List (ℕ × ℕ × ℕ)) (k rank s r : ℕ) (more whole : FormalSum n) → r ≡ s % p
    → IsSame p (ranked_sum n bs terms ++ (((0, monomial_at n bs k), s) ∷ more)) whole
    → IsSame p (ranked_sum n bs (terms ++ (rank, k, r) ∷ []) ++ more) whole
ranked_more n p bs terms k rank s r more whole e h =
    let parts : ranked_sum n bs (terms ++ (rank, k, r) ∷ []) ≡ ranked_sum n bs terms ++ ((0, monomial_at n bs k), r) ∷ []
    = map-append (λ t. ((0, monomial_at n bs t.1), t.2)) terms ((rank, k, r) ∷ []) in
    IsSame_trans (IsSame_of p _ _ (ap (λ v. v ++ more) parts ∙ append_assoc (ranked_sum n bs terms) (((0, monomial_at n bs k), r) ∷ []) more))
    (IsSame_trans (IsSame_append (IsSame_refl p (ranked_sum n bs terms)) (with_residue n p (0, monomial_at n bs k) r s more e)) h)

pub ranked_none :
    (n p : ℕ) (bs : List (ℕ × ℕ)) (terms : List (ℕ × ℕ × ℕ)) (k s r : ℕ) (more whole : FormalSum n) → r ≡ s % p → r ≡ 0
    → IsSame p (ranked_sum n bs terms ++ (((0, monomial_at n bs k), s) ∷ more)) whole
    → IsSame p (ranked_sum n bs terms ++ more) whole
ranked_none n p bs terms k s r more whole e z h =
    IsSame_trans (IsSame_append (IsSame_refl p (ranked_sum n bs terms))
    (IsSame_trans (no_term n p (0, monomial_at n bs k) more)
    (with_residue n p (0, monomial_at n bs k) 0 s more (sym z ∙ e)))) h

pub ranked_residues :
    (p : ℕ) (terms : List (ℕ × ℕ × ℕ)) (t : ℕ × ℕ × ℕ) → Each (λ u. u.2 < p) terms → t.2 < p → Each (λ u. u.2 < p) (terms ++ t ∷ [])
ranked_residues p terms t h lt = Each_append (λ u. u.2 < p) terms (t ∷ []) h (lt, tt)

-- terms in another order
weighted_by : {n : ℕ} (f : Key n → ℕ) (v : FormalSum n) → weighted_sum f v ≡ sum_by (λ (t : Term n). t.1 * f t.0) v
weighted_by f [] = refl
weighted_by {n} f (t ∷ v) = ap (λ x. t.1 * f t.0 + x) (weighted_by f v) ∙ sym (sum_by-cons (λ (t : Term n). t.1 * f t.0) t v)

pub ranked_permuted :
    (n p : ℕ) (bs : List (ℕ × ℕ)) (terms sorted : List (ℕ × ℕ × ℕ)) → IsPermutation terms sorted
    → IsSame p (ranked_sum n bs sorted) (ranked_sum n bs terms)
ranked_permuted n p bs terms sorted h =
    let v = ranked_sum n bs terms in
    let w = ranked_sum n bs sorted in
    let moved : IsPermutation v w = IsPermutation-map (λ (t : ℕ × ℕ × ℕ). ((0, monomial_at n bs t.1), t.2)) terms sorted h in
    record {
      by_key = λ k. IsCongruent_of p _ _
          (weighted_by (indicator k) w ∙ sum_by-IsPermutation (λ (t : Term n). t.1 * indicator k t.0) v w moved ∙ sym (weighted_by (indicator k) v));
    }

-- the two parts of a sum exchanged
pub IsSame_comm : {n : ℕ} (p : ℕ) (v w : FormalSum n) → IsSame p (v ++ w) (w ++ v)
IsSame_comm p v w = record {
  by_key = λ x. IsCongruent_of p _ _ (
      weighted_sum-append (indicator x) v w ∙ commuted (weighted_sum (indicator x) v) (weighted_sum (indicator x) w)
      ∙ sym (weighted_sum-append (indicator x) w v));
}
  where
    commuted : (a b : ℕ) → a + b ≡ b + a
    commuted a b = omega arith

-- what is added to a sum is taken from the rest
pub moved : {n p : ℕ} (now old part rest whole : FormalSum n) → IsSame p now (part ++ old) → IsSame p (old ++ (part ++ rest)) whole → IsSame p (now ++ rest) whole
moved {n} {p} now old part rest whole step h =
    IsSame_trans (IsSame_append step (IsSame_refl p rest)) (IsSame_trans (IsSame_sym (IsSame_front p old part rest)) h)

-- one product of two terms added
pub product_added :
    (n p : ℕ) (bs : List (ℕ × ℕ)) (key c : ℕ) (t : ℕ × ℕ) (more : List (ℕ × ℕ)) (now old : List ℕ) (whole : FormalSum n)
    → HaveNoCarry bs key t.0
    → IsSame p (table_sum n bs 0 now) (((0, monomial_at n bs (key + t.0)), c * t.1) ∷ table_sum n bs 0 old)
    → IsSame p (table_sum n bs 0 old ++ scale c (monomial_at n bs key) (packed_sum n bs (t ∷ more))) whole
    → IsSame p (table_sum n bs 0 now ++ scale c (monomial_at n bs key) (packed_sum n bs more)) whole
product_added n p bs key c t more now old whole apart step h =
    let same : monomial_at n bs (key + t.0) ≡ times (monomial_at n bs key) (monomial_at n bs t.0) = monomial_at-sum n bs key t.0 apart in
    let turned : IsSame p (table_sum n bs 0 now) (((0, times (monomial_at n bs key) (monomial_at n bs t.0)), c * t.1) ∷ table_sum n bs 0 old)
    = subst (λ m. IsSame p (table_sum n bs 0 now) (((0, m), c * t.1) ∷ table_sum n bs 0 old)) same step in
    moved (table_sum n bs 0 now) (table_sum n bs 0 old) (((0, times (monomial_at n bs key) (monomial_at n bs t.0)), c * t.1) ∷ [])
    (scale c (monomial_at n bs key) (packed_sum n bs more)) whole turned h

-- nothing is left
pub no_rest : (n p : ℕ) (v w : FormalSum n) → IsSame p (v ++ []) w → IsSame p v w
no_rest n p v w h = subst (λ u. IsSame p u w) (append-nil v) h

-- an empty table is zero
table_zeros : {n : ℕ} (f : Key n → ℕ) (bs : List (ℕ × ℕ)) (from k : ℕ) → weighted_sum f (table_sum n bs from (replicate k 0)) ≡ 0
table_zeros f bs from zero = refl
table_zeros {n} f bs from (suc k) =
    let later : weighted_sum f (table_sum n bs (from + 1) (replicate k 0)) ≡ 0 = table_zeros f bs (from + 1) k in
    with_zero (f (key_at n bs from)) (weighted_sum f (table_sum n bs (from + 1) (replicate k 0))) later
  where
    with_zero : (a w : ℕ) → w ≡ 0 → 0 * a + w ≡ 0
    with_zero a w e = omega arith

pub filled : (n p : ℕ) (bs : List (ℕ × ℕ)) (k : ℕ) (zeros now : List ℕ) (v : FormalSum n) → zeros ≡ replicate k 0
    → IsSame p (table_sum n bs 0 now) (v ++ table_sum n bs 0 zeros) → IsSame p (table_sum n bs 0 now) v
filled n p bs k zeros now v e h =
    IsSame_trans (subst (λ z. IsSame p (table_sum n bs 0 now) (v ++ table_sum n bs 0 z)) e h)
    (record {
      by_key = λ x. IsCongruent_of p _ _ (weighted_sum-append (indicator x) v (table_sum n bs 0 (replicate k 0))
          ∙ ap (λ y. weighted_sum (indicator x) v + y) (table_zeros (indicator x) bs 0 k) ∙ no_more (weighted_sum (indicator x) v));
    })
  where
    no_more : (a : ℕ) → a + 0 ≡ a
    no_more a = omega arith

-- what follows of each answer
pub each_some : {A E : Type 0} (P Q : A → Type 0) (r : Result (Option A) E) → ((v : A) → P v → Q v) → IfOk r (λ o. IfSome o P) → IfOk r (λ o. IfSome o Q)
each_some P Q (Ok (Some v)) f h = f v h
each_some P Q (Ok None) f h = tt
each_some P Q (Err e) f h = tt

-- a vector of ranked terms of the product is the product
pub product_joined :
    (ring other : Ring) (a b terms v : List (CodeKey × ℕ)) (bs : List (ℕ × ℕ)) (ranked : List (ℕ × ℕ × ℕ)) → other ≡ ring
    → ((n : ℕ) → IsSame other.modulus.value (sum_of n terms) (ranked_sum n bs ranked))
    → ((n : ℕ) → IsSame other.modulus.value (ranked_sum n bs ranked) (product (sum_of n a) (sum_of n b)))
    → StandsFor ring v (sum_of (variables ring) terms) → StandsFor ring v (product (sum_of (variables ring) a) (sum_of (variables ring) b))
product_joined ring other a b terms v bs ranked e h k s =
    let n = variables ring in
    IsSame_trans s (subst (λ r. IsSame r.modulus.value (sum_of n terms) (product (sum_of n a) (sum_of n b))) e (IsSame_trans (h n) (k n)))

-- a sum with c more in one slot, which has the number or the sum 0
taken_over : (f c y v w x : ℕ) → (x ≡ f) ⊎ (y ≡ 0) → (c + y) * f + w ≡ c * f + (y * x + w)
taken_over f c y v w x (inl e) = rw e (first f c y v w)
taken_over f c y v w x (inr z) = rw z (omega arith)

slot_set_weight :
    {n p : ℕ} (f : Key n → ℕ) (bs : List (ℕ × ℕ)) (slots : List (ℕ × ℕ)) (key i v c : ℕ) → IsOpen slots key i
    → IsCongruent p v (c + (get_or slots i no_slot).1)
    → IsCongruent p (weighted_sum f (packed_sum n bs (set slots i (key, v)))) (c * f (key_at n bs key) + weighted_sum f (packed_sum n bs slots))
slot_set_weight f bs [] key i v c o e = absurd (let lt = o.below in omega arith)
slot_set_weight {n} {p} f bs (y ∷ slots) key zero v c o e =
    IsCongruent_trans (IsCongruent_add (IsCongruent_multiply e (IsCongruent_refl p (f (key_at n bs key)))) (IsCongruent_refl p (weighted_sum f (packed_sum n bs slots))))
    (IsCongruent_of p _ _ (taken_over (f (key_at n bs key)) c y.1 v (weighted_sum f (packed_sum n bs slots)) (f (key_at n bs y.0)) (by o.takes)))
  where
    by : (y.0 ≡ key) ⊎ (y.1 ≡ 0) → (f (key_at n bs y.0) ≡ f (key_at n bs key)) ⊎ (y.1 ≡ 0)
    by (inl q) = inl (ap (λ k. f (key_at n bs k)) q)
    by (inr z) = inr z
slot_set_weight {n} {p} f bs (y ∷ slots) key (suc i) v c o e =
    let later : IsOpen slots key i = record { below = (let lt = o.below in omega arith); takes = o.takes } in
    IsCongruent_trans (IsCongruent_add (IsCongruent_refl p (y.1 * f (key_at n bs y.0))) (slot_set_weight f bs slots key i v c later e))
    (IsCongruent_of p _ _ (exchange (y.1 * f (key_at n bs y.0)) (c * f (key_at n bs key)) (weighted_sum f (packed_sum n bs slots))))

pub slot_set :
    (n p : ℕ) (bs : List (ℕ × ℕ)) (slots : List (ℕ × ℕ)) (key i v c : ℕ) → IsOpen slots key i → IsCongruent p v (c + (get_or slots i no_slot).1)
    → IsSame p (packed_sum n bs (set slots i (key, v))) (((0, monomial_at n bs key), c) ∷ packed_sum n bs slots)
slot_set n p bs slots key i v c o e = record { by_key = λ x. slot_set_weight (indicator x) bs slots key i v c o e }

-- free slots are zero
free_weight : {n : ℕ} (f : Key n → ℕ) (bs : List (ℕ × ℕ)) (k : ℕ) → weighted_sum f (packed_sum n bs (replicate k no_slot)) ≡ 0
free_weight f bs zero = refl
free_weight {n} f bs (suc k) = with_zero (f (key_at n bs 0)) (weighted_sum f (packed_sum n bs (replicate k no_slot))) (free_weight f bs k)
  where
    with_zero : (a w : ℕ) → w ≡ 0 → 0 * a + w ≡ 0
    with_zero a w e = omega arith

-- two numbers that are 0 are a free slot
pub no_slot_of : (y : ℕ × ℕ) → (y.0 ≡ 0) × (y.1 ≡ 0) → y ≡ no_slot
no_slot_of y e = ap₂ (λ (a : ℕ) (b : ℕ). (a, b)) e.0 e.1

pub free_sum : (n p : ℕ) (bs : List (ℕ × ℕ)) (k : ℕ) (slots : List (ℕ × ℕ)) → slots ≡ replicate k no_slot → IsSame p (packed_sum n bs slots) []
free_sum n p bs k slots e = subst (λ v. IsSame p (packed_sum n bs v) []) (sym e) (record { by_key = λ x. IsCongruent_of p _ _ (free_weight (indicator x) bs k) })

-- a sum that starts from nothing
pub from_nothing : (n p : ℕ) (now part old : FormalSum n) → IsSame p old [] → IsSame p now (part ++ old) → IsSame p now part
from_nothing n p now part old z h =
    IsSame_trans h (IsSame_trans (IsSame_append (IsSame_refl p part) z) (IsSame_of p _ _ (append-nil part)))

-- a sum less a multiple of q
pub less_multiples : (p q s : ℕ) → IsCongruent p q 0 → IsCongruent p (s % q) s
less_multiples p q s z =
    IsCongruent_trans (IsCongruent_of p _ _ (let f : s % q ≡ 0 * (s / q) + s % q = omega arith in f))
    (IsCongruent_trans (IsCongruent_add (IsCongruent_multiply (IsCongruent_sym z) (IsCongruent_refl p (s / q))) (IsCongruent_refl p (s % q)))
    (IsCongruent_of p _ _ (div-add-mod s q)))

-- one slot's sum added to others
pub slot_added :
    (n p q : ℕ) (bs : List (ℕ × ℕ)) (slot : ℕ × ℕ) (rest more now old : List (ℕ × ℕ)) (whole : FormalSum n) → rest ≡ slot ∷ more → IsCongruent p q 0
    → IsSame p (packed_sum n bs now) (((0, monomial_at n bs slot.0), slot.1 % q) ∷ packed_sum n bs old)
    → IsSame p (packed_sum n bs old ++ packed_sum n bs rest) whole
    → IsSame p (packed_sum n bs now ++ packed_sum n bs more) whole
slot_added n p q bs slot rest more now old whole parts z step h =
    moved (packed_sum n bs now) (packed_sum n bs old) (((0, monomial_at n bs slot.0), slot.1) ∷ []) (packed_sum n bs more) whole
    (IsSame_trans step (same_residue n p (0, monomial_at n bs slot.0) (slot.1 % q) slot.1 (packed_sum n bs old) (less_multiples p q slot.1 z)))
    (subst (λ xs. IsSame p (packed_sum n bs old ++ packed_sum n bs xs) whole) parts h)

-- one product of two terms added to slots
pub product_put :
    (n p : ℕ) (bs : List (ℕ × ℕ)) (key c sum x : ℕ) (t : ℕ × ℕ) (rest more now old : List (ℕ × ℕ)) (whole : FormalSum n)
    → rest ≡ t ∷ more → sum ≡ key + t.0 → x ≡ c * t.1 → HaveNoCarry bs key t.0
    → IsSame p (packed_sum n bs now) (((0, monomial_at n bs sum), x) ∷ packed_sum n bs old)
    → IsSame p (packed_sum n bs old ++ scale c (monomial_at n bs key) (packed_sum n bs rest)) whole
    → IsSame p (packed_sum n bs now ++ scale c (monomial_at n bs key) (packed_sum n bs more)) whole
product_put n p bs key c sum x t rest more now old whole parts e f apart step h =
    let same : monomial_at n bs sum ≡ times (monomial_at n bs key) (monomial_at n bs t.0) = ap (monomial_at n bs) e ∙ monomial_at-sum n bs key t.0 apart in
    moved (packed_sum n bs now) (packed_sum n bs old) (((0, times (monomial_at n bs key) (monomial_at n bs t.0)), c * t.1) ∷ [])
    (scale c (monomial_at n bs key) (packed_sum n bs more)) whole
    (subst₂ (λ m y. IsSame p (packed_sum n bs now) (((0, m), y) ∷ packed_sum n bs old)) same f step)
    (subst (λ xs. IsSame p (packed_sum n bs old ++ scale c (monomial_at n bs key) (packed_sum n bs xs)) whole) parts h)

pub each_ok : {A E : Type 0} (P Q : A → Type 0) (r : Result A E) → ((v : A) → P v → Q v) → IfOk r P → IfOk r Q
each_ok P Q (Ok v) f h = f v h
each_ok P Q (Err e) f h = tt
