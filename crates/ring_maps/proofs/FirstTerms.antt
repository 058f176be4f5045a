-- Terms in the first variables of a graph
use Rattle.std.proofs.Common.{List, [], ap, append_assoc, drop, get_or, length, refl, suc, sym, take, zero, ℕ, ◌%◌, ◌*◌, ◌++◌, ◌+◌, ◌<◌, ◌∙◌, ◌∷◌, ◌≡◌}
use Rattle.std.proofs.lemmas.List.{map-append}
use Rattle.residues.proofs.Congruences.{IsCongruent_add, IsCongruent_mod, IsCongruent_multiply, IsCongruent_of, IsCongruent_refl, IsCongruent_trans}
use Rattle.monomials.proofs.Monomials.{times-unit}
use Rattle.monomials.specs.Exponents.{exponents_of, times, unit}
use Rattle.formal_sums.proofs.Combining.{scale-one}
use Rattle.formal_sums.proofs.Sameness.{IsSame_append, IsSame_of, IsSame_past, IsSame_refl, IsSame_trans, scale-append}
use Rattle.formal_sums.proofs.WeightedSums.{Each_append}
use Rattle.formal_sums.specs.FormalSums.{Each, FormalSum, IsSame, Key, Term, indicator, scale}
use Rattle.map_laws.specs.Graphs.{fitted, in_first}
use Rattle.monomial_orders.specs.Kept.{Monomial}
use Rattle.term_lists.proofs.Merges.{sum_of-append}
use Rattle.term_lists.proofs.Scaling.{take_item}
use Rattle.term_lists.specs.Vectors.{AreTermsOver, IsMonomialOver, sum_of}
use Rattle.term_lists.specs.declared.key.Key.{Key as CodeKey}
use Rattle.term_lists.specs.declared.ring.Ring.{Ring}
use Rattle.syzygy_engine.proofs.Standing.{Terms}

-- one more term of the ring
pub over_more :
    (ring : Ring) (ys : Terms) (t : CodeKey × ℕ) → AreTermsOver ring ys → IsMonomialOver ring t.0.monomial → t.1 < ring.modulus.value
    → AreTermsOver ring (ys ++ t ∷ [])
over_more ring ys t h m r = Each_append (λ s. IsMonomialOver ring s.0.monomial × (s.1 < ring.modulus.value)) ys (t ∷ []) h ((m, r), tt)

-- c times terms in the first variables
abbrev pub multiple : {n : ℕ} → (m c : ℕ) → FormalSum n → FormalSum m
multiple m c v = scale c (unit m) (in_first m v)

pub multiple-append : {n : ℕ} (m c : ℕ) (v w : FormalSum n) → multiple m c (v ++ w) ≡ multiple m c v ++ multiple m c w
multiple-append m c v w =
    ap (scale c (unit m)) (map-append (λ (t : Term _). ((t.0.0, fitted m t.0.1), t.1)) v w) ∙ scale-append c (unit m) (in_first m v) (in_first m w)

-- a residue of the coefficient is as good
same_term : {m : ℕ} (p r a : ℕ) (k l : Key m) → k ≡ l → r ≡ a % p → IsSame p ((k, r) ∷ []) ((l, a) ∷ [])
same_term p r a k l e h = record {
  by_key = λ x.
      IsCongruent_trans (IsCongruent_of p _ _ (ap (λ z. r * indicator x z + 0) e))
      (IsCongruent_add (IsCongruent_multiply (IsCongruent_trans (IsCongruent_of p _ _ h) (IsCongruent_mod p a)) (IsCongruent_refl p (indicator x l))) (IsCongruent_refl p 0));
}

-- one more term, in the first variables and times c
pub first_more :
    (n m p c : ℕ) (old : FormalSum m) (xs ys : Terms) (i : ℕ) (t : CodeKey × ℕ) (u : Monomial) (r : ℕ)
    → i < length xs → t ≡ get_or xs i t → exponents_of m u.exponents ≡ fitted m (exponents_of n t.0.monomial.exponents) → r ≡ (c * t.1) % p
    → IsSame p (sum_of m ys) (old ++ multiple m c (sum_of n (take i xs)))
    → IsSame p (sum_of m (ys ++ (record { position = t.0.position; monomial = u }, r) ∷ [])) (old ++ multiple m c (sum_of n (take (i + 1) xs)))
first_more n m p c old xs ys i t u r lt is e er h =
    let s : CodeKey × ℕ = (record { position = t.0.position; monomial = u }, r) in
    let f : Key m = (t.0.position, fitted m (exponents_of n t.0.monomial.exponents)) in
    let one : IsSame p (sum_of m (s ∷ [])) (multiple m c (sum_of n (t ∷ []))) =
    same_term p r (c * t.1) (t.0.position, exponents_of m u.exponents) (t.0.position, times (unit m) f.1) (ap (λ z. (t.0.position, z)) (e ∙ sym (times-unit f.1))) er in
    let whole : multiple m c (sum_of n (take (i + 1) xs)) ≡ multiple m c (sum_of n (take i xs)) ++ multiple m c (sum_of n (t ∷ [])) =
    ap (λ z. multiple m c (sum_of n z)) (take_item xs i t lt is) ∙ ap (multiple m c) (sum_of-append n (take i xs) (t ∷ [])) ∙ multiple-append m c (sum_of n (take i xs)) (sum_of n (t ∷ [])) in
    IsSame_trans (IsSame_of p _ _ (sum_of-append m ys (s ∷ [])))
    (IsSame_trans (IsSame_append h one)
    (IsSame_of p _ _ (append_assoc old (multiple m c (sum_of n (take i xs))) (multiple m c (sum_of n (t ∷ []))) ∙ ap (λ z. old ++ z) (sym whole))))

-- all of them, and nothing before
pub first_alone : {n : ℕ} (m : ℕ) (v : FormalSum n) → [] ++ multiple m 1 v ≡ in_first m v
first_alone m v = scale-one (in_first m v)

-- y among the terms of a multiple, as the first one
pub first_among :
    (n m p c : ℕ) (y : Term m) (a b : Terms) (first then last : FormalSum m)
    → IsSame p first ([] ++ multiple m c (sum_of n a)) → IsSame p then (first ++ y ∷ []) → IsSame p last (then ++ multiple m c (sum_of n b))
    → IsSame p last (y ∷ multiple m c (sum_of n (a ++ b)))
first_among n m p c y a b first then last h k l =
    let A : FormalSum m = multiple m c (sum_of n a) in
    let B : FormalSum m = multiple m c (sum_of n b) in
    let whole : multiple m c (sum_of n (a ++ b)) ≡ A ++ B = ap (multiple m c) (sum_of-append n a b) ∙ multiple-append m c (sum_of n a) (sum_of n b) in
    IsSame_trans l
    (IsSame_trans (IsSame_append (IsSame_trans k (IsSame_append h (IsSame_refl p (y ∷ [])))) (IsSame_refl p B))
    (IsSame_trans (IsSame_of p _ _ (append_assoc A (y ∷ []) B))
    (IsSame_trans (IsSame_past A ((y ∷ []) ++ B) (y ∷ []) B (IsSame_refl p _)) (IsSame_of p _ _ (ap (λ z. y ∷ z) (sym whole))))))

-- ---- the two parts of a list of terms
pub each_front : {X : Type 0} (P : X → Type 0) (k : ℕ) (xs : List X) → Each P xs → Each P (take k xs)
each_front P zero xs h = tt
each_front P (suc k) [] h = tt
each_front P (suc k) (x ∷ xs) h = (h.0, each_front P k xs h.1)

pub each_back : {X : Type 0} (P : X → Type 0) (k : ℕ) (xs : List X) → Each P xs → Each P (drop k xs)
each_back P zero xs h = h
each_back P (suc k) [] h = tt
each_back P (suc k) (x ∷ xs) h = each_back P k xs h.1

pub both_parts : {X : Type 0} (k : ℕ) (xs : List X) → take k xs ++ drop k xs ≡ xs
both_parts zero xs = refl
both_parts (suc k) [] = refl
both_parts (suc k) (x ∷ xs) = ap (λ z. x ∷ z) (both_parts k xs)
