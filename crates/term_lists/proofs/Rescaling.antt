-- Residues multiplied in place
use Rattle.std.proofs.Common.{List, Ordering, [], add-one, ap, ap₂, arith, drop, get_or, length, map, mod-eq_of_lt, mod-lt, mul_comm, refl, set, subst, suc, sym, take, zero, ℕ, ◌%◌, ◌*◌, ◌++◌, ◌+◌, ◌<◌, ◌∙◌, ◌∷◌, ◌≡◌}
use Rattle.residues.proofs.Congruences.{IsCongruent_add, IsCongruent_mod, IsCongruent_multiply, IsCongruent_of, IsCongruent_refl, IsCongruent_trans}
use Rattle.residues.specs.Residues.{IsDomain}
use Rattle.monomials.specs.Exponents.{unit}
use Rattle.formal_sums.proofs.Combining.{scale-one}
use Rattle.formal_sums.proofs.Sameness.{IsSame_of, IsSame_refl, shift-unit}
use Rattle.formal_sums.specs.FormalSums.{Each, IsSame, Key, indicator, scale}
use Rattle.zp_field.specs.Moduli.{IsInverse}
use Rattle.term_lists.proofs.Scaling.{descends_keys}
use Rattle.term_lists.specs.Multiples.{rescaled}
use Rattle.term_lists.specs.Rings.{variables}
use Rattle.term_lists.specs.Vectors.{IsMonicOf, IsTerm, IsVector, key_of, sum_of}
use Rattle.term_lists.specs.declared.key.Key.{Key as CodeKey}
use Rattle.term_lists.specs.declared.ring.Ring.{Ring}

rescale_get :
    (p c : ℕ) (xs : List (CodeKey × ℕ)) (i : ℕ) (d : CodeKey × ℕ)
    → i < length xs → get_or (rescaled p c (take i xs) ++ drop i xs) i d ≡ get_or xs i d
rescale_get p c [] i d lt = absurd (omega arith)
rescale_get p c (x ∷ xs) zero d lt = refl
rescale_get p c (x ∷ xs) (suc i) d lt = rescale_get p c xs i d (omega arith)

rescale_set :
    (p c : ℕ) (xs : List (CodeKey × ℕ)) (i : ℕ) (t : CodeKey × ℕ)
    → i < length xs → t ≡ get_or xs i t
    → set (rescaled p c (take i xs) ++ drop i xs) i (t.0, (c * t.1) % p) ≡ rescaled p c (take (suc i) xs) ++ drop (suc i) xs
rescale_set p c [] i t lt e = absurd (omega arith)
rescale_set p c (x ∷ xs) zero t lt e = ap (λ y. (y.0, (c * y.1) % p) ∷ xs) e
rescale_set p c (x ∷ xs) (suc i) t lt e = ap (λ r. (x.0, (c * x.1) % p) ∷ r) (rescale_set p c xs i t (omega arith) e)

-- the step of the loop: x is read, and y is where the residue is written
pub rescale_step :
    (p c : ℕ) (xs ys : List (CodeKey × ℕ)) (i r : ℕ) (x y : CodeKey × ℕ)
    → i < length xs → ys ≡ rescaled p c (take i xs) ++ drop i xs → x ≡ get_or ys i x → y ≡ get_or ys i y → r ≡ (c * x.1) % p
    → set ys i (y.0, r) ≡ rescaled p c (take (i + 1) xs) ++ drop (i + 1) xs
rescale_step p c xs ys i r x y lt e hx hy er =
    let ex : x ≡ get_or xs i x = hx ∙ ap (λ z. get_or z i x) e ∙ rescale_get p c xs i x lt in
    let ey : y ≡ get_or xs i y = hy ∙ ap (λ z. get_or z i y) e ∙ rescale_get p c xs i y lt in
    let xy : y ≡ x = ey ∙ same xs i y x lt ∙ sym ex in
    ap₂ (λ z w. set z i w) e (ap₂ (λ k s. (k, s)) (ap (λ z. z.0) xy) er) ∙ rescale_set p c xs i x lt ex ∙ ap₂ (λ j k. rescaled p c (take j xs) ++ drop k xs) (sym (add-one i)) (sym (add-one i))
  where
    same : (xs : List (CodeKey × ℕ)) (i : ℕ) (d d' : CodeKey × ℕ) → i < length xs → get_or xs i d ≡ get_or xs i d'
    same [] i d d' lt = absurd (omega arith)
    same (z ∷ xs) zero d d' lt = refl
    same (z ∷ xs) (suc i) d d' lt = same xs i d d' (omega arith)

pub rescaled_keys : (p c : ℕ) (v : List (CodeKey × ℕ)) → map (λ t. t.0) (rescaled p c v) ≡ map (λ t. t.0) v
rescaled_keys p c [] = refl
rescaled_keys p c (t ∷ v) = ap (λ r. t.0 ∷ r) (rescaled_keys p c v)

rescaled_sum_keys : (n p c : ℕ) (v : List (CodeKey × ℕ)) → map (λ t. t.0) (sum_of n v) ≡ map (λ t. t.0) (sum_of n (rescaled p c v))
rescaled_sum_keys n p c [] = refl
rescaled_sum_keys n p c (t ∷ v) = ap (λ r. key_of n t.0 ∷ r) (rescaled_sum_keys n p c v)

rescaled_each :
    (n : ℕ) (ws : List ℕ) (p c : ℕ) (v : List (CodeKey × ℕ)) → IsDomain p → 0 < c → c < p → Each (IsTerm n ws p) v → Each (IsTerm n ws p) (rescaled p c v)
rescaled_each n ws p c [] domain pos lt h = tt
rescaled_each n ws p c (t ∷ v) domain pos lt h =
    let p0 : 0 < p = omega arith in (
      record { weighed = h.0.weighed; nonzero = domain.nonzero c t.1 pos lt h.0.nonzero h.0.reduced; reduced = mod-lt (c * t.1) p0 },
      rescaled_each n ws p c v domain pos lt h.1,
    )

-- the multiple of a vector by a residue that is not 0
pub rescaled_vector :
    (n : ℕ) (ws : List ℕ) (p c : ℕ) (compare : Key n → Key n → Ordering) (v : List (CodeKey × ℕ))
    → IsDomain p → 0 < c → c < p → IsVector n ws p compare v → IsVector n ws p compare (rescaled p c v)
rescaled_vector n ws p c compare v domain pos lt h = record {
  each = rescaled_each n ws p c v domain pos lt h.each;
  descends = descends_keys compare (sum_of n v) (sum_of n (rescaled p c v)) (rescaled_sum_keys n p c v) h.descends;
}

pub rescaled_sum :
    (n p c : ℕ) (v : List (CodeKey × ℕ)) → IsSame p (sum_of n (rescaled p c v)) (scale c (unit n) (sum_of n v))
rescaled_sum n p c [] = IsSame_refl p []
rescaled_sum n p c (t ∷ v) = record {
  by_key = λ l.
      IsCongruent_add
      (IsCongruent_trans (IsCongruent_multiply (IsCongruent_mod p (c * t.1)) (IsCongruent_refl p (indicator l (key_of n t.0)))) (IsCongruent_of p _ _ (ap (λ z. c * t.1 * indicator l z) (sym (shift-unit (key_of n t.0))))))
      ((rescaled_sum n p c v).by_key l);
}

-- zero is monic
pub monic_empty : (ring : Ring) (v : List (CodeKey × ℕ)) → length v ≡ 0 → 1 < ring.modulus.value → IsMonicOf ring v v
monic_empty ring v e lt = record {
  factor = 1;
  nonzero = omega arith;
  reduced = lt;
  multiple = IsSame_of ring.modulus.value _ _ (sym (scale-one (sum_of (variables ring) v)));
  keys = refl;
  one = λ pos. absurd (omega arith);
}

-- a vector times the inverse of its first residue
pub monic_rescaled :
    (ring : Ring) (v w : List (CodeKey × ℕ)) (t : CodeKey × ℕ) (c : ℕ)
    → 0 < length v → t ≡ get_or v 0 t → 1 < ring.modulus.value → IsInverse ring.modulus.value t.1 c
    → w ≡ rescaled ring.modulus.value c v → IsMonicOf ring v w
monic_rescaled ring [] w t c pos e lt i is = absurd (omega arith)
monic_rescaled ring (s ∷ v) w t c pos e lt i is =
    let p = ring.modulus.value in
    let n = variables ring in
    subst (IsMonicOf ring (s ∷ v)) (sym is)
    (record {
      factor = c;
      nonzero = inverse_positive p t.1 c lt i;
      reduced = i.below;
      multiple = rescaled_sum n p c (s ∷ v);
      keys = rescaled_keys p c (s ∷ v);
      one = λ h. ap (λ z. z % p) (ap (λ z. c * z.1) (sym e) ∙ mul_comm c t.1) ∙ i.one;
    })
  where
    inverse_positive : (p a c : ℕ) → 1 < p → IsInverse p a c → 0 < c
    inverse_positive p a zero lt i = let z : (a * 0) % p ≡ 0 = ap (λ y. y % p) (omega arith) ∙ mod-eq_of_lt (omega arith) in absurd (let o = i.one in omega arith)
    inverse_positive p a (suc c) lt i = omega arith
