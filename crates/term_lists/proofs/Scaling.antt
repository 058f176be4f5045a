-- Multiples of vectors, term by term
use Rattle.std.proofs.Common.{List, Ordering, [], ap, ap₂, arith, get_or, length, map, mod-lt, refl, subst, suc, sym, take, zero, subst₂, ℕ, ◌*◌, ◌++◌, ◌+◌, ◌<◌, ◌∙◌, ◌∷◌, ◌≡◌}
use Rattle.std.proofs.lemmas.List.{take_more}
use Rattle.residues.proofs.Congruences.{IsCongruent_add, IsCongruent_mod, IsCongruent_multiply, IsCongruent_of, IsCongruent_refl, IsCongruent_trans}
use Rattle.residues.specs.Residues.{IsCongruent, IsDomain}
use Rattle.monomials.specs.Exponents.{Exponents, exponents_of}
use Rattle.formal_sums.proofs.Sameness.{IsSame_append, IsSame_of, IsSame_refl, IsSame_trans, scale-append}
use Rattle.formal_sums.proofs.WeightedSums.{Each_append}
use Rattle.formal_sums.specs.FormalSums.{Each, FormalSum, IsSame, Key, Term, indicator, scale, shift}
use Rattle.orders.specs.KeyOrders.{Descends}
use Rattle.monomial_orders.specs.Kept.{IsWeighed, Monomial}
use Rattle.term_lists.proofs.Descending.{IsOver}
use Rattle.term_lists.proofs.Merges.{sum_of-append}
use Rattle.term_lists.specs.Multiples.{AreMultiples, IsMultiple}
use Rattle.term_lists.specs.Vectors.{IsTerm, IsVector, key_of, sum_of}
use Rattle.term_lists.specs.declared.key.Key.{Key as CodeKey}

-- ---- descending is a matter of the keys
module _ {n : ℕ} (compare : Key n → Key n → Ordering) where
  over_keys :
      (k : Key n) (v w : FormalSum n)
      → map (λ t. t.0) v ≡ map (λ t. t.0) w → IsOver compare k v → IsOver compare k w
  over_keys k [] [] e h = tt
  over_keys k [] (u ∷ w) e h = absurd (cc)
  over_keys k (t ∷ v) [] e h = tt
  over_keys k (t ∷ v) (u ∷ w) e h =
      let d : t.0 ≡ u.0 = cc in
      let r : map (λ t. t.0) v ≡ map (λ t. t.0) w = cc in
      (ap (compare k) (sym d) ∙ h.0, over_keys k v w r h.1)

  pub descends_keys :
      (v w : FormalSum n)
      → map (λ t. t.0) v ≡ map (λ t. t.0) w → Descends compare v → Descends compare w
  descends_keys [] [] e h = tt
  descends_keys [] (u ∷ w) e h = absurd (cc)
  descends_keys (t ∷ v) [] e h = tt
  descends_keys (t ∷ v) (u ∷ w) e h =
      let d : t.0 ≡ u.0 = cc in
      let r : map (λ t. t.0) v ≡ map (λ t. t.0) w = cc in
      (over_keys u.0 v w r (subst (λ k. IsOver compare k v) d h.0), descends_keys v w r h.1)

  -- a multiple descends
  pub descends_scale :
      ((m : Exponents n) (k l : Key n) → compare (shift m k) (shift m l) ≡ compare k l)
      → (c : ℕ) (m : Exponents n) (v : FormalSum n)
      → Descends compare v → Descends compare (scale c m v)
  descends_scale kept c m [] h = tt
  descends_scale kept c m (t ∷ v) h = (go v h.0, descends_scale kept c m v h.1)
    where
      go : (v : FormalSum n) → IsOver compare t.0 v → IsOver compare (shift m t.0) (scale c m v)
      go [] h = tt
      go (u ∷ v) h = (kept m t.0 u.0 ∙ h.0, go v h.1)

map-append_keys : {n : ℕ} (v w : FormalSum n) → map (λ t. t.0) (v ++ w) ≡ map (λ t. t.0) v ++ map (λ t. t.0) w
map-append_keys [] w = refl
map-append_keys (t ∷ v) w = ap (λ r. t.0 ∷ r) (map-append_keys v w)

module _ (n : ℕ) (ws : List ℕ) (p c : ℕ) (m : Monomial) where
  pub multiples_none : AreMultiples n ws p c m [] []
  multiples_none = record { each = tt; keys = refl; sums = IsSame_refl p [] }

  -- one term more
  pub multiples_more :
      (v u : List (CodeKey × ℕ)) (t s : CodeKey × ℕ)
      → IsWeighed n ws m → IsDomain p → 0 < c → c < p → IsTerm n ws p t → IsMultiple n p c m t s → AreMultiples n ws p c m v u
      → AreMultiples n ws p c m (v ++ t ∷ []) (u ++ s ∷ [])
  multiples_more v u t s hm domain pos lt ht hs h =
      let e = exponents_of n m.exponents in
      let q : Term n = (shift e (key_of n t.0), c * t.1) in
      let p0 : 0 < p = omega arith in
      let old : scale c e (sum_of n (v ++ t ∷ [])) ≡ scale c e (sum_of n v) ++ (q ∷ []) = ap (scale c e) (sum_of-append n v (t ∷ [])) ∙ scale-append c e (sum_of n v) ((key_of n t.0, t.1) ∷ []) in
      let new : sum_of n (u ++ s ∷ []) ≡ sum_of n u ++ ((key_of n s.0, s.1) ∷ []) = sum_of-append n u (s ∷ []) in
      let res : IsCongruent p s.1 (c * t.1) = IsCongruent_trans (IsCongruent_of p _ _ hs.residue) (IsCongruent_mod p (c * t.1)) in
      let one : IsSame p ((key_of n s.0, s.1) ∷ []) (q ∷ []) = record {
        by_key = λ k.
            IsCongruent_trans (IsCongruent_of p _ _ (ap (λ z. s.1 * indicator k z + 0) hs.key))
            (IsCongruent_add (IsCongruent_multiply res (IsCongruent_refl p (indicator k q.0))) (IsCongruent_refl p 0));
      } in
      record {
        each = Each_append (IsTerm n ws p) u (s ∷ []) h.each (record { weighed = hs.weighed ws hm ht.weighed; nonzero = subst (λ z. 0 < z) (sym hs.residue) (domain.nonzero c t.1 pos lt ht.nonzero ht.reduced); reduced = subst (λ z. z < p) (sym hs.residue) (mod-lt (c * t.1) p0) }, tt);
        keys =
            ap (map (λ t. t.0)) new ∙ map-append_keys (sum_of n u) ((key_of n s.0, s.1) ∷ [])
            ∙ ap₂ (λ x y. x ++ (y ∷ [])) h.keys hs.key
            ∙ sym (ap (map (λ t. t.0)) old ∙ map-append_keys (scale c e (sum_of n v)) (q ∷ []));
        sums = IsSame_trans (IsSame_of p _ _ new) (IsSame_trans (IsSame_append h.sums one) (IsSame_of p _ _ (sym old)));
      }

  -- all of them are a vector
  pub multiples_vector :
      (compare : Key n → Key n → Ordering)
      → ((m : Exponents n) (k l : Key n) → compare (shift m k) (shift m l) ≡ compare k l)
      → (v u : List (CodeKey × ℕ))
      → IsVector n ws p compare v → AreMultiples n ws p c m v u → IsVector n ws p compare u
  multiples_vector compare kept v u hv h = record {
    each = h.each;
    descends = descends_keys compare (scale c (exponents_of n m.exponents) (sum_of n v)) (sum_of n u) (sym h.keys) (descends_scale compare kept c (exponents_of n m.exponents) (sum_of n v) hv.descends);
  }

-- ---- items of a list by their index
pub Each_at : {X : Type 0} (P : X → Type 0) (xs : List X) (i : ℕ) (x : X) → Each P xs → i < length xs → x ≡ get_or xs i x → P x
Each_at P [] i x h lt e = absurd (omega arith)
Each_at P (y ∷ xs) zero x h lt e = subst P (sym e) h.0
Each_at P (y ∷ xs) (suc i) x h lt e = Each_at P xs i x h.1 (omega arith) e

-- one more of a list's first items
pub take_item : {X : Type 0} (xs : List X) (i : ℕ) (x : X) → i < length xs → x ≡ get_or xs i x → take (i + 1) xs ≡ take i xs ++ x ∷ []
take_item xs i x lt e = take_more xs i x lt ∙ ap (λ y. take i xs ++ y ∷ []) (sym e)

-- each of the first items, and one more
pub Each_more : {X : Type 0} (P : X → Type 0) (xs : List X) (i : ℕ) (x : X) → Each P (take i xs) → i < length xs → x ≡ get_or xs i x → P x → Each P (take (i + 1) xs)
Each_more P xs i x h lt e q = subst (Each P) (sym (take_item xs i x lt e)) (Each_append P (take i xs) (x ∷ []) h (q, tt))

-- the step of the loop that makes them
pub multiples_step :
    (n : ℕ) (ws : List ℕ) (p c : ℕ) (m : Monomial) (v u : List (CodeKey × ℕ)) (i : ℕ) (t s : CodeKey × ℕ) (k q : ℕ)
    → k ≡ n → q ≡ p → IsWeighed n ws m → IsDomain q → 0 < c → c < p → Each (IsTerm n ws p) v → i < length v → t ≡ get_or v i t
    → IsMultiple k q c m t s → AreMultiples n ws p c m (take i v) u → AreMultiples n ws p c m (take (i + 1) v) (u ++ s ∷ [])
multiples_step n ws p c m v u i t s k q ek eq hm domain pos lt each il it hs h =
    let d : IsDomain p = subst IsDomain eq domain in
    let hs' : IsMultiple n p c m t s = subst₂ (λ x y. IsMultiple x y c m t s) ek eq hs in
    subst (λ x. AreMultiples n ws p c m x (u ++ s ∷ [])) (sym (take_item v i t il it))
    (multiples_more n ws p c m (take i v) u t s hm d pos lt (Each_at (IsTerm n ws p) v i t each il it) hs' h)
