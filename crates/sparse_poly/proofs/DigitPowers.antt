-- Powers by digits of the exponent, and what is known of their results
use Rattle.std.proofs.Common.{Err, IfOk, List, Ok, Ordering, Result, [], ap, arith, length, refl, subst, sym, ℕ, ◌%◌, ◌*◌, ◌+◌, ◌/◌, ◌<◌, ◌∙◌, ◌∷◌, ◌≡◌, ◌≤◌}
use Rattle.std.proofs.Math.Nat.{mul-le-mul_right}
use Rattle.residues.specs.Residues.{IsDomain}
use Rattle.monomials.specs.Exponents.{Exponents}
use Rattle.monomials.specs.Weights.{weighted_degree}
use Rattle.formal_sums.proofs.Sameness.{IsSame_of, IsSame_sym, IsSame_trans}
use Rattle.formal_sums.specs.FormalSums.{Each, FormalSum, IsSame, Key, product}
use Rattle.orders.specs.KeyOrders.{IsKeyOrder}
use Rattle.term_lists.specs.Rings.{variables}
use Rattle.term_lists.specs.Vectors.{AreTermsOver, HasPositions, IsTerm, IsVectorOver, StandsFor, sum_of}
use Rattle.term_lists.specs.declared.key.Key.{Key as CodeKey}
use Rattle.term_lists.specs.declared.ring.Ring.{Ring}
use Rattle.sparse_poly.proofs.Bounding.{HasDegreeWithin_power}
use Rattle.sparse_poly.proofs.Expanding.{power_power}
use Rattle.sparse_poly.proofs.Frobenius.{frobenius}
use Rattle.sparse_poly.proofs.PowerSteps.{power_within}
use Rattle.sparse_poly.proofs.Powering.{IsPolynomial_power, IsSame_power, IsSame_product_both, power_add}
use Rattle.sparse_poly.proofs.Terms.{HasDegreeWithin_of, HasPositions_of, IsPolynomial_of, each_weighed}
use Rattle.sparse_poly.proofs.TopDegrees.{Occurs_within}
use Rattle.sparse_poly.specs.Degrees.{HasDegreeWithin, IsWithinDegree}
use Rattle.sparse_poly.specs.PowerParts.{IsPowerOver}
use Rattle.sparse_poly.specs.Powers.{polynomial_power}
use Rattle.sparse_poly.specs.Stops.{OccursInPolynomial, PowersFit}
use Rattle.sparse_poly.specs.TermPowers.{AreTermsWithin, StandForPower, raised_monomials}

-- a number by its last digit
pub div_mod : (n q : ℕ) → 0 < q → q * (n / q) + n % q ≡ n
div_mod n q pos = omega arith

-- within small degrees all powers fit
pub PowersFit_within : {n p : ℕ} (d : ℕ) (ws : List ℕ) (v : FormalSum n) (k : ℕ) → HasDegreeWithin ws p d v → k * d ≤ 65535 → PowersFit ws p v k
PowersFit_within {n} {p} d ws v k bound small = fits
  where
    fits :
        (s t : ℕ) (a b : Exponents n) → s + t ≤ k → OccursInPolynomial p (polynomial_power v s) a → OccursInPolynomial p (polynomial_power v t) b
        → weighted_degree ws a + weighted_degree ws b ≤ 65535
    fits s t a b le oa ob =
        let left : weighted_degree ws a ≤ s * d = Occurs_within (polynomial_power v s) a (HasDegreeWithin_power v s bound) oa in
        let right : weighted_degree ws b ≤ t * d = Occurs_within (polynomial_power v t) b (HasDegreeWithin_power v t bound) ob in
        let most : (s + t) * d ≤ k * d = mul-le-mul_right d le in
        let split : (s + t) * d ≡ s * d + t * d = omega arith in
        omega arith

module _ (ring : Ring) (compare : (n : ℕ) → Key n → Key n → Ordering) {r : ℕ} (order : IsKeyOrder r (compare (variables ring))) (domain : IsDomain ring.modulus.value)
    (base : List (CodeKey × ℕ)) (vector : IsVectorOver ring compare base) (d : ℕ) (within : IsWithinDegree d base) where
  positive : 0 < ring.modulus.value
  positive = let h : 1 < ring.modulus.value = domain.above_one in omega arith

  -- a vector that is the power k, within small degrees
  pub power_over :
      (k : ℕ) (v : List (CodeKey × ℕ)) → k * d ≤ 65535 → IsVectorOver ring compare v
      → StandsFor ring v (polynomial_power (sum_of (variables ring) base) k) → IsPowerOver ring compare base k v
  power_over k v small hv same = record {
    power_is = record {
      vector = hv;
      positions = HasPositions_of order ring.weights ring.modulus.value v (polynomial_power (sum_of (variables ring) base) k) hv same (IsPolynomial_power (sum_of (variables ring) base) k);
      same = same;
    };
    fits = PowersFit_within d ring.weights (sum_of (variables ring) base) k (HasDegreeWithin_of ring.weights ring.modulus.value base (each_weighed (variables ring) ring.weights ring.modulus.value base vector.each) within) small;
  }

  -- the same of a result
  pub power_over_result :
      {E : Type 0} (k : ℕ) (answer : Result (List (CodeKey × ℕ)) E) → k * d ≤ 65535 → IfOk answer (IsVectorOver ring compare)
      → IfOk answer (λ v. StandsFor ring v (polynomial_power (sum_of (variables ring) base) k)) → IfOk answer (IsPowerOver ring compare base k)
  power_over_result k (Ok v) small hv same = power_over k v small hv same
  power_over_result k (Err e) small hv same = tt

  -- the degree of a power
  pub power_degree : (k : ℕ) (v : List (CodeKey × ℕ)) → IsPowerOver ring compare base k v → IsWithinDegree (k * d) v
  power_degree k v h = power_within order ring.weights domain base k d (k * d) v vector within refl h.power_is.vector h.power_is.same

  -- a power of a power
  pub lifted_same :
      (i j k : ℕ) (high v : List (CodeKey × ℕ)) → k ≡ i * j → IsPowerOver ring compare base i high
      → StandsFor ring v (polynomial_power (sum_of (variables ring) high) j) → StandsFor ring v (polynomial_power (sum_of (variables ring) base) k)
  lifted_same i j k high v e h same =
      let m : ℕ = variables ring in
      IsSame_trans same
      (IsSame_trans (IsSame_power positive (sum_of m high) (polynomial_power (sum_of m base) i) j h.power_is.same) (power_power positive (sum_of m base) i j k e))

  -- the power p of a power, as a power
  pub lifted_over :
      (i k : ℕ) (high v : List (CodeKey × ℕ)) → k ≡ ring.modulus.value * i → k * d ≤ 65535 → IsPowerOver ring compare base i high
      → IsVectorOver ring compare v → StandsFor ring v (polynomial_power (sum_of (variables ring) high) ring.modulus.value) → IsPowerOver ring compare base k v
  lifted_over i k high v e small h hv same =
      let q : ℕ = ring.modulus.value in
      let turned : q * i ≡ i * q = omega arith in
      power_over k v small hv (lifted_same i q k high v (e ∙ turned) h same)

  -- terms that were found for a power
  pub found_power :
      (k : ℕ) (other : Ring) (xs terms v : List (CodeKey × ℕ)) → other ≡ ring → xs ≡ base → k * d ≤ 65535 → StandForPower other xs k terms
      → IsVectorOver ring compare v → StandsFor ring v (sum_of (variables ring) terms) → IsPowerOver ring compare base k v
  found_power k other xs terms v e f small found hv same =
      let here : StandForPower ring base k terms = subst (λ r. StandForPower r base k terms) e (subst (λ ys. StandForPower other ys k terms) f found) in
      power_over k v small hv (IsSame_trans same here.same)

  -- a product of powers
  pub joined_same :
      (i j k : ℕ) (a b v : List (CodeKey × ℕ)) → i + j ≡ k → IsPowerOver ring compare base i a → IsPowerOver ring compare base j b
      → StandsFor ring v (product (sum_of (variables ring) a) (sum_of (variables ring) b)) → StandsFor ring v (polynomial_power (sum_of (variables ring) base) k)
  joined_same i j k a b v e ha hb same =
      let m : ℕ = variables ring in
      IsSame_trans same
      (IsSame_trans (IsSame_product_both positive (sum_of m a) (sum_of m b) (polynomial_power (sum_of m base) i) (polynomial_power (sum_of m base) j) ha.power_is.same hb.power_is.same)
      (IsSame_sym (power_add positive (sum_of m base) i j k e)))

  pub joined_result :
      {E : Type 0} (i j k : ℕ) (a b : List (CodeKey × ℕ)) (answer : Result (List (CodeKey × ℕ)) E) → i + j ≡ k → k * d ≤ 65535
      → IsPowerOver ring compare base i a → IsPowerOver ring compare base j b → IfOk answer (IsVectorOver ring compare)
      → IfOk answer (λ v. StandsFor ring v (product (sum_of (variables ring) a) (sum_of (variables ring) b)))
      → IfOk answer (IsPowerOver ring compare base k)
  joined_result i j k a b (Ok v) e small ha hb hv same = power_over k v small hv (joined_same i j k a b v e ha hb same)
  joined_result i j k a b (Err stop) e small ha hb hv same = tt

-- the power p of a power k, where k p + r is small
pub lifted_room : (n q k r d : ℕ) → q * k + r ≡ n → n * d ≤ 65535 → q * (k * d) + r * d ≤ 65535
lifted_room n q k r d e small =
    let f : (q * k + r) * d ≡ n * d = ap (λ x. x * d) e in
    let g : (q * k + r) * d ≡ q * (k * d) + r * d = apart q k r d in
    omega arith
  where
    apart : (q k r d : ℕ) → (q * k + r) * d ≡ q * (k * d) + r * d
    apart q k r d = omega arith

-- all but the last digit are fewer
pub div_less : (n q : ℕ) → 1 < q → q ≤ n → n / q < n
div_less n q above le =
    let k : ℕ = n / q in
    let whole : q * (n / q) + n % q ≡ n = div_mod n q (omega arith) in
    let twice : 2 * (n / q) ≤ q * (n / q) = mul-le-mul_right (n / q) above in
    omega arith

pub mul_room : (a n d : ℕ) → a ≤ n → n * d ≤ 65535 → a * d ≤ 65535
mul_room a n d le small = let h : a * d ≤ n * d = mul-le-mul_right d le in omega arith

-- the terms of a polynomial, with a bound on its degree
pub terms_within :
    (ring : Ring) (d : ℕ) (v : List (CodeKey × ℕ)) → Each (IsTerm (variables ring) ring.weights ring.modulus.value) v → HasPositions 1 v
    → IsWithinDegree d v → AreTermsWithin ring d v
terms_within ring d [] h p w = tt
terms_within ring d (t ∷ v) h p w =
    (record { term = h.0; position = (let lt : t.0.position < 1 = p.0 in omega arith); within = w.0 }, terms_within ring d v h.1 p.1 w.1)

-- the terms with their monomials to the power p stand for the power p
pub prime_same :
    (ring other : Ring) (terms xs v : List (CodeKey × ℕ)) → other ≡ ring → xs ≡ v → IsDomain ring.modulus.value → HasPositions 1 v
    → sum_of (variables other) terms ≡ raised_monomials other.modulus.value (sum_of (variables other) xs)
    → IsSame ring.modulus.value (sum_of (variables ring) terms) (polynomial_power (sum_of (variables ring) v) ring.modulus.value)
prime_same ring other terms xs v e q domain positions h =
    let m : ℕ = variables ring in
    let here : sum_of m terms ≡ raised_monomials ring.modulus.value (sum_of m v) =
    subst (λ r. sum_of (variables r) terms ≡ raised_monomials r.modulus.value (sum_of (variables r) v)) e
    (h ∙ ap (λ ys. raised_monomials other.modulus.value (sum_of (variables other) ys)) q)
    in
    IsSame_trans (IsSame_of ring.modulus.value _ _ here) (IsSame_sym (frobenius domain (sum_of m v) (IsPolynomial_of m v positions)))

-- one term, or two, to a power
pub stand_single :
    (ring : Ring) (n : ℕ) (terms more v : List (CodeKey × ℕ)) (first : CodeKey × ℕ) → terms ≡ first ∷ more → more ≡ []
    → AreTermsOver ring v → StandsFor ring v (polynomial_power (sum_of (variables ring) (first ∷ [])) n) → StandForPower ring terms n v
stand_single ring n terms more v first e q over same = record {
  terms = over;
  same = subst (λ xs. StandsFor ring v (polynomial_power (sum_of (variables ring) xs) n)) (sym (e ∙ ap (λ xs. first ∷ xs) q)) same;
}

pub stand_double :
    (ring : Ring) (n : ℕ) (terms more rest v : List (CodeKey × ℕ)) (first second : CodeKey × ℕ) → terms ≡ first ∷ more → more ≡ second ∷ rest
    → length rest ≡ 0 → AreTermsOver ring v → StandsFor ring v (polynomial_power (sum_of (variables ring) (first ∷ second ∷ [])) n)
    → StandForPower ring terms n v
stand_double ring n terms more rest v first second e f q over same = record {
  terms = over;
  same = subst (λ xs. StandsFor ring v (polynomial_power (sum_of (variables ring) xs) n)) (sym (e ∙ ap (λ xs. first ∷ xs) (f ∙ ap (λ ys. second ∷ ys) (empty rest q)))) same;
}
  where
    empty : (xs : List (CodeKey × ℕ)) → length xs ≡ 0 → xs ≡ []
    empty [] z = refl
    empty (x ∷ xs) z = absurd (omega arith)
