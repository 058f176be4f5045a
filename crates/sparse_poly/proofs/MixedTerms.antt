-- The terms of a power of two terms
use Rattle.std.proofs.Common.{List, [], ap, arith, refl, subst, sym, ℕ, ◌%◌, ◌*◌, ◌++◌, ◌+◌, ◌-◌, ◌<◌, ◌^◌, ◌∙◌, ◌∷◌, ◌≡◌, ◌≤◌}
use Rattle.std.proofs.Math.Nat.{mul-le-mul_left}
use Rattle.std.proofs.lemmas.List.{map-append}
use Rattle.residues.proofs.Congruences.{IsCongruent_mod, IsCongruent_multiply, IsCongruent_of, IsCongruent_refl, IsCongruent_trans}
use Rattle.residues.specs.Residues.{IsCongruent, IsDomain}
use Rattle.monomials.specs.Exponents.{exponents_of, unit}
use Rattle.formal_sums.proofs.Combining.{scale-one}
use Rattle.formal_sums.proofs.Multiplying.{product_comm}
use Rattle.formal_sums.proofs.Sameness.{IsSame_of, IsSame_trans}
use Rattle.formal_sums.specs.FormalSums.{FormalSum, IsPolynomial, IsSame, product, scale}
use Rattle.term_lists.specs.Rings.{variables}
use Rattle.term_lists.specs.Vectors.{StandsFor, key_of, sum_of}
use Rattle.term_lists.specs.declared.key.Key.{Key as CodeKey}
use Rattle.term_lists.specs.declared.ring.Ring.{Ring}
use Rattle.sparse_poly.proofs.Expanding.{expanding_goes_on, mixed_product}
use Rattle.sparse_poly.proofs.Powering.{IsPolynomial_power, product_one}
use Rattle.sparse_poly.specs.Binomials.{IsExpanding, choose}
use Rattle.sparse_poly.specs.Powers.{constant, polynomial_power}
use Rattle.sparse_poly.specs.TermPowers.{IsMixedTerm, IsTermWithin}

-- a sum of two lists
sum_of-append : (m : ℕ) (xs ys : List (CodeKey × ℕ)) → sum_of m (xs ++ ys) ≡ sum_of m xs ++ sum_of m ys
sum_of-append m xs ys = map-append (λ t. (key_of m t.0, t.1)) xs ys

-- one term as a sum
single_sum : (m : ℕ) (t : CodeKey × ℕ) → t.0.position ≡ 0 → sum_of m (t ∷ []) ≡ ((0, exponents_of m t.0.monomial.exponents), t.1) ∷ []
single_sum m t z = ap (λ i. ((i, exponents_of m t.0.monomial.exponents), t.1) ∷ []) z

pub mixed_same :
    (ring : Ring) (whole c i j : ℕ) (a b t : CodeKey × ℕ) → c ≡ whole % ring.modulus.value → a.0.position ≡ 0 → b.0.position ≡ 0
    → IsMixedTerm ring c i j a b t
    → IsSame ring.modulus.value (sum_of (variables ring) (t ∷ []))
    (scale whole (unit (variables ring)) (product (polynomial_power (sum_of (variables ring) (a ∷ [])) i) (polynomial_power (sum_of (variables ring) (b ∷ [])) j)))
mixed_same ring whole c i j a b t e za zb h =
    let m : ℕ = variables ring in
    let q : ℕ = ring.modulus.value in
    let residue : IsCongruent q t.1 (whole * (a.1 ^ i * b.1 ^ j)) =
    IsCongruent_trans (IsCongruent_of q _ _ h.residue)
    (IsCongruent_trans (IsCongruent_mod q (c * (a.1 ^ i * b.1 ^ j)))
    (IsCongruent_multiply (IsCongruent_trans (IsCongruent_of q _ _ e) (IsCongruent_mod q whole)) (IsCongruent_refl q (a.1 ^ i * b.1 ^ j))))
    in
    rw (single_sum m t h.position, single_sum m a za, single_sum m b zb)
    (mixed_product q whole i j a.1 b.1 (exponents_of m a.0.monomial.exponents) (exponents_of m b.0.monomial.exponents) (exponents_of m t.0.monomial.exponents) t.1 h.exponents residue)

-- one term is a polynomial
pub single_polynomial : (m : ℕ) (t : CodeKey × ℕ) → t.0.position ≡ 0 → IsPolynomial (sum_of m (t ∷ []))
single_polynomial m t z = (z, tt)

-- one term more of the binomial theorem
pub binomial_step :
    (ring : Ring) (n i d c : ℕ) (a b t : CodeKey × ℕ) (done more : List (CodeKey × ℕ)) → IsDomain ring.modulus.value
    → i ≤ n → IsTermWithin ring d a → IsTermWithin ring d b → c ≡ choose n i % ring.modulus.value → IsMixedTerm ring c (n - i) i a b t
    → more ≡ done ++ t ∷ []
    → IsExpanding ring.modulus.value n i (sum_of (variables ring) (a ∷ [])) (sum_of (variables ring) (b ∷ [])) (sum_of (variables ring) done)
    → IsExpanding ring.modulus.value n (i + 1) (sum_of (variables ring) (a ∷ [])) (sum_of (variables ring) (b ∷ [])) (sum_of (variables ring) more)
binomial_step ring n i d c a b t done more domain le ha hb e h q expanding =
    let m : ℕ = variables ring in
    let positive : 0 < ring.modulus.value = (let above : 1 < ring.modulus.value = domain.above_one in omega arith) in
    let whole : i + (n - i) ≡ n = omega arith in
    let u : FormalSum m = sum_of m (a ∷ []) in
    let v : FormalSum m = sum_of m (b ∷ []) in
    subst (IsExpanding ring.modulus.value n (i + 1) u v) (sym (ap (sum_of m) q ∙ sum_of-append m done (t ∷ [])))
    (expanding_goes_on positive u v (single_polynomial m a ha.position) (single_polynomial m b hb.position) n i (n - i) (sum_of m done) (sum_of m (t ∷ [])) whole expanding
    (mixed_same ring (choose n i) c (n - i) i a b t e ha.position hb.position h))

-- the power of one term
pub single_same :
    (ring : Ring) (n c : ℕ) (a t : CodeKey × ℕ) → c ≡ 1 % ring.modulus.value → a.0.position ≡ 0 → IsMixedTerm ring c n 0 a a t
    → StandsFor ring (t ∷ []) (polynomial_power (sum_of (variables ring) (a ∷ [])) n)
single_same ring n c a t e z h =
    let m : ℕ = variables ring in
    let q : ℕ = ring.modulus.value in
    let u : FormalSum m = sum_of m (a ∷ []) in
    IsSame_trans (mixed_same ring 1 c n 0 a a t e z z h)
    (IsSame_trans (IsSame_of q _ _ (scale-one (product (polynomial_power u n) (constant m 1))))
    (IsSame_trans (product_comm q (polynomial_power u n) (constant m 1) (IsPolynomial_power u n) (refl, tt)) (IsSame_of q _ _ (product_one (polynomial_power u n)))))

-- its degree is small
pub mixed_room : (n i d a b : ℕ) → i ≤ n → a ≤ d → b ≤ d → n * d ≤ 65535 → (n - i) * a + i * b ≤ 65535
mixed_room n i d a b le la lb small =
    let left : (n - i) * a ≤ (n - i) * d = mul-le-mul_left (n - i) la in
    let right : i * b ≤ i * d = mul-le-mul_left i lb in
    let whole : n - i + i ≡ n = omega arith in
    let both : (n - i + i) * d ≡ n * d = ap (λ x. x * d) whole in
    let split : (n - i + i) * d ≡ (n - i) * d + i * d = distributed (n - i) i d in
    omega arith
  where
    distributed : (x y z : ℕ) → (x + y) * z ≡ x * z + y * z
    distributed x y z = omega arith
