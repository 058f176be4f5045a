-- Powers of monomials, and the terms that are made of them
use Rattle.std.proofs.Common.{List, [], ap, ap₂, arith, get_or, length, map, max, refl, slice_index, subst, suc, sym, take, zero, ℕ, ◌%◌, ◌*◌, ◌++◌, ◌+◌, ◌<◌, ◌^◌, ◌∙◌, ◌∷◌, ◌≡◌, ◌≤◌}
use Rattle.std.proofs.Math.Nat.{mul-le-mul_left}
use Rattle.std.proofs.lemmas.List.{length-map, map-append, take_more}
use Rattle.residues.proofs.Congruences.{IsCongruent_mod, IsCongruent_multiply, IsCongruent_of, IsCongruent_refl, IsCongruent_trans}
use Rattle.residues.specs.Residues.{IsCongruent}
use Rattle.monomials.specs.Exponents.{Exponents, cons, exponents_of, nil, times}
use Rattle.monomial_orders.specs.Kept.{IsWeighed, Monomial}
use Rattle.monomials.specs.Weights.{weighted_degree}
use Rattle.term_lists.proofs.Scaling.{take_item}
use Rattle.term_lists.specs.Rings.{variables}
use Rattle.term_lists.specs.Vectors.{key_of, sum_of}
use Rattle.term_lists.specs.declared.key.Key.{Key as CodeKey}
use Rattle.term_lists.specs.declared.ring.Ring.{Ring}
use Rattle.sparse_poly.specs.TermPowers.{IsMixedTerm, IsRaisedTerm, monomial_power, raised_monomials}

-- exponents times k are those of the power k
pub exponents_multiplied : (n k : ℕ) (xs : List ℕ) → exponents_of n (map (λ e. k * e) xs) ≡ monomial_power k (exponents_of n xs)
exponents_multiplied zero k xs = refl
exponents_multiplied (suc n) k [] =
    let z : 0 ≡ k * 0 = omega arith in
    ap₂ cons z (exponents_multiplied n k [])
exponents_multiplied (suc n) k (x ∷ xs) = ap (cons (k * x)) (exponents_multiplied n k xs)

-- the degree of a power
pub weighted_degree-power : {n : ℕ} (ws : List ℕ) (k : ℕ) (m : Exponents n) → weighted_degree ws (monomial_power k m) ≡ k * weighted_degree ws m
weighted_degree-power ws k nil = omega arith
weighted_degree-power [] k (cons a m) =
    let e : weighted_degree [] (monomial_power k m) ≡ k * weighted_degree [] m = weighted_degree-power [] k m in
    omega arith
weighted_degree-power (w ∷ ws) k (cons a m) =
    let e : weighted_degree ws (monomial_power k m) ≡ k * weighted_degree ws m = weighted_degree-power ws k m in
    let f : max 1 w * (k * a) ≡ k * (max 1 w * a) = omega arith in
    let g : k * (max 1 w * a + weighted_degree ws m) ≡ k * (max 1 w * a) + k * weighted_degree ws m = omega arith in
    omega arith

-- a multiple is no greater than that of a greater number
pub product_small : (k e d : ℕ) → e ≤ d → k * d ≤ 65535 → k * e ≤ 65535
product_small k e d le small = let h : k * e ≤ k * d = mul-le-mul_left k le in omega arith

-- one more exponent
pub multiplied_next :
    (k : ℕ) (xs ys : List ℕ) (i x : ℕ) → i < length xs → x ≡ k * slice_index xs i → ys ≡ map (λ e. k * e) (take i xs)
    → ys ++ x ∷ [] ≡ map (λ e. k * e) (take (i + 1) xs)
multiplied_next k xs ys i x lt e h =
    ap₂ (λ zs z. zs ++ z ∷ []) h e
    ∙ sym (map-append (λ e. k * e) (take i xs) (slice_index xs i ∷ []))
    ∙ sym (ap (map (λ e. k * e)) (take_more xs i 0 lt))

-- one more term
pub raised_next :
    (ring : Ring) (xs ys : List (CodeKey × ℕ)) (i : ℕ) (t u : CodeKey × ℕ) → i < length xs → t ≡ get_or xs i t → IsRaisedTerm ring t u
    → sum_of (variables ring) ys ≡ raised_monomials ring.modulus.value (sum_of (variables ring) (take i xs))
    → sum_of (variables ring) (ys ++ u ∷ []) ≡ raised_monomials ring.modulus.value (sum_of (variables ring) (take (i + 1) xs))
raised_next ring xs ys i t u lt is r h =
    let m : ℕ = variables ring in
    let q : ℕ = ring.modulus.value in
    map-append (λ t. (key_of m t.0, t.1)) ys (u ∷ [])
    ∙ ap₂ ◌++◌ h (ap₂ (λ k c. (k, c) ∷ []) r.key r.residue)
    ∙ sym (ap (λ zs. raised_monomials q (sum_of m zs)) (take_item xs i t lt is)
    ∙ ap (raised_monomials q) (map-append (λ t. (key_of m t.0, t.1)) (take i xs) (t ∷ []))
    ∙ map-append (λ t. ((t.0.0, monomial_power q t.0.1), t.1)) (sum_of m (take i xs)) (sum_of m (t ∷ [])))

-- the degree of exponents times k
pub raised_degree :
    (n k : ℕ) (ws : List ℕ) (m : Monomial) (xs : List ℕ) → IsWeighed n ws m → xs ≡ map (λ e. k * e) m.exponents
    → weighted_degree ws (exponents_of (length xs) xs) ≡ k * m.degree
raised_degree n k ws m xs h e =
    let size : length xs ≡ n = ap length e ∙ length-map m.exponents (λ e. k * e) ∙ h.variables in
    ap (λ l. weighted_degree ws (exponents_of l xs)) size
    ∙ ap (λ l. weighted_degree ws (exponents_of n l)) e
    ∙ ap (weighted_degree ws) (exponents_multiplied n k m.exponents)
    ∙ weighted_degree-power ws k (exponents_of n m.exponents)
    ∙ ap (λ d. k * d) (sym h.degree)

pub raised_is :
    (ring : Ring) (t : CodeKey × ℕ) (m : Monomial) (k : ℕ) → k ≡ ring.modulus.value → t.1 < ring.modulus.value
    → IsWeighed (length ring.weights) ring.weights m
    → exponents_of (length ring.weights) m.exponents ≡ monomial_power k (exponents_of (length ring.weights) t.0.monomial.exponents)
    → IsRaisedTerm ring t (record { position = t.0.position; monomial = m }, t.1)
raised_is ring t m k e lt weighed exponents = record {
  weighed = subst (λ n. IsWeighed n ring.weights m) ring.weighted weighed;
  reduced = lt;
  key = ap (λ x. (t.0.position, x))
      (subst (λ n. exponents_of n m.exponents ≡ monomial_power k (exponents_of n t.0.monomial.exponents)) ring.weighted exponents
      ∙ ap (λ q. monomial_power q (exponents_of (variables ring) t.0.monomial.exponents)) e);
  residue = refl;
}

pub mixed_is :
    (ring : Ring) (c i j : ℕ) (a b : CodeKey × ℕ) (l r m : Monomial) (first second residues residue : ℕ)
    → IsWeighed (length ring.weights) ring.weights m
    → exponents_of (length ring.weights) l.exponents ≡ monomial_power i (exponents_of (length ring.weights) a.0.monomial.exponents)
    → exponents_of (length ring.weights) r.exponents ≡ monomial_power j (exponents_of (length ring.weights) b.0.monomial.exponents)
    → exponents_of (length ring.weights) m.exponents ≡ times (exponents_of (length ring.weights) l.exponents) (exponents_of (length ring.weights) r.exponents)
    → first ≡ (a.1 ^ i) % ring.modulus.value → second ≡ (b.1 ^ j) % ring.modulus.value
    → residues ≡ (first * second) % ring.modulus.value → residue ≡ (c * residues) % ring.modulus.value → residue < ring.modulus.value
    → IsMixedTerm ring c i j a b (record { position = 0; monomial = m }, residue)
mixed_is ring c i j a b l r m first second residues residue weighed el er em ef es ers er' lt = record {
  weighed = subst (λ n. IsWeighed n ring.weights m) ring.weighted weighed;
  reduced = lt;
  position = refl;
  exponents = subst (λ n. exponents_of n m.exponents ≡ times (monomial_power i (exponents_of n a.0.monomial.exponents)) (monomial_power j (exponents_of n b.0.monomial.exponents))) ring.weighted
      (em ∙ ap₂ times el er);
  residue = er' ∙ product.same;
}
  where
    p : ℕ
    p = ring.modulus.value

    parts : IsCongruent p residues (a.1 ^ i * b.1 ^ j)
    parts =
        IsCongruent_trans (IsCongruent_of p _ _ ers)
        (IsCongruent_trans (IsCongruent_mod p (first * second))
        (IsCongruent_multiply (IsCongruent_trans (IsCongruent_of p _ _ ef) (IsCongruent_mod p (a.1 ^ i))) (IsCongruent_trans (IsCongruent_of p _ _ es) (IsCongruent_mod p (b.1 ^ j)))))

    product : IsCongruent p (c * residues) (c * (a.1 ^ i * b.1 ^ j))
    product = IsCongruent_multiply (IsCongruent_refl p c) parts
