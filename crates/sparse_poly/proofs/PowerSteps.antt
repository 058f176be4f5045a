-- The steps of a power: what the product of two powers is, where it fits, and why it stops
use Rattle.std.proofs.Common.{Err, IfErr, IfOk, List, Ok, OnErr, OnOk, Ordering, Result, ap, arith, refl, subst, sym, ℕ, ◌%◌, ◌*◌, ◌+◌, ◌<◌, ◌≡◌, ◌≤◌}
use Rattle.std.proofs.Math.Nat.{mul-le-mul_right}
use Rattle.residues.proofs.Congruences.{IsCongruent_add, IsCongruent_mod, IsCongruent_multiply, IsCongruent_refl}
use Rattle.residues.specs.Residues.{IsCongruent, IsDomain}
use Rattle.monomials.specs.Exponents.{Exponents, exponents_of}
use Rattle.monomials.specs.Weights.{weighted_degree}
use Rattle.formal_sums.proofs.Multiplying.{product_comm}
use Rattle.formal_sums.proofs.Sameness.{IsSame_of, IsSame_sym, IsSame_trans}
use Rattle.formal_sums.specs.FormalSums.{FormalSum, IsPolynomial, IsSame, Key, product}
use Rattle.orders.specs.KeyOrders.{IsKeyOrder}
use Rattle.term_lists.specs.Stops.{Fits}
use Rattle.term_lists.specs.Rings.{variables}
use Rattle.term_lists.specs.Vectors.{HasPositions, IsTerm, IsVector, IsVectorOver, StandsFor, sum_of}
use Rattle.term_lists.specs.declared.key.Key.{Key as CodeKey}
use Rattle.term_lists.specs.declared.ring.Ring.{Ring}
use Rattle.term_lists.specs.declared.stop.VectStop.{VectStop}
use Rattle.term_lists.specs.declared.stop.VectStop.TheVariants.{Degree, Memory}
use Rattle.sparse_poly.proofs.Bounding.{HasDegreeWithin_constant, HasDegreeWithin_power, HasDegreeWithin_same}
use Rattle.sparse_poly.proofs.Powering.{IsSame_product_both, power_add, product_one}
use Rattle.sparse_poly.proofs.Results.{one_err}
use Rattle.sparse_poly.proofs.Terms.{HasDegreeWithin_of, HasMonomial_of, IsPolynomial_of, IsWithinDegree_of, Occurs_of, each_at, each_weighed, weighed_of}
use Rattle.sparse_poly.proofs.TopDegrees.{Occurs_within, PowersFit_of}
use Rattle.sparse_poly.specs.Degrees.{HasDegreeWithin, IsWithinDegree}
use Rattle.sparse_poly.specs.PowerParts.{IsPower, IsPowerOver, PowerStopsOver}
use Rattle.sparse_poly.specs.Powers.{constant, polynomial_power}
use Rattle.sparse_poly.specs.Stops.{OccursInPolynomial, PowerStops, PowersFit, ProductFits, PolynomialProductStops}

-- a stop of a lower power is one of a higher
pub PowerStops_higher :
    (n : ℕ) (ws : List ℕ) (p : ℕ) (v : FormalSum n) (k l : ℕ) (stop : VectStop) → k ≤ l
    → PowerStops n ws p v k stop → PowerStops n ws p v l stop
PowerStops_higher n ws p v k l Memory le h = tt
PowerStops_higher n ws p v k l (Degree s t) le h =
    let low : h.0 + h.1 ≤ k = h.2 in
    (h.0, h.1, omega arith, h.3, h.4, h.5, h.6, h.7)

-- the powers up to 0 fit
pub PowersFit_none : {n p : ℕ} (ws : List ℕ) → IsDomain p → (v : FormalSum n) (k : ℕ) → IsPolynomial v → k ≡ 0 → PowersFit ws p v k
PowersFit_none {n} {p} ws domain v k h e =
    PowersFit_of ws domain v 0 0 k h (omega arith) (λ a b oa ob. (let left : weighted_degree ws a ≤ 0 = Occurs_within (constant n 1) a (HasDegreeWithin_constant n ws p 1) oa in let right : weighted_degree ws b ≤ 0 = Occurs_within (constant n 1) b (HasDegreeWithin_constant n ws p 1) ob in omega arith))

module _ {n r p : ℕ} {compare : Key n → Key n → Ordering} (order : IsKeyOrder r compare) (ws : List ℕ) (domain : IsDomain p) where
  -- a polynomial is its power 1
  pub IsPower_itself :
      (base : List (CodeKey × ℕ)) → IsVector n ws p compare base → HasPositions 1 base
      → IsPower ws p compare (sum_of n base) 1 base
  IsPower_itself base vector positions =
      let poly : IsPolynomial (sum_of n base) = IsPolynomial_of n base positions in
      record {
        vector = vector;
        positions = positions;
        same = IsSame_trans (IsSame_of p (sum_of n base) (product (constant n 1) (sum_of n base)) (sym (product_one (sum_of n base)))) (product_comm p (constant n 1) (sum_of n base) (refl, tt) poly);
      }

  positive : 0 < p
  positive = let h : 1 < p = domain.above_one in omega arith

  -- the product of two powers is one
  pub power_product :
      (base : FormalSum n) (i j k : ℕ) (a b v : List (CodeKey × ℕ))
      → i + j ≡ k → IsPower ws p compare base i a → IsPower ws p compare base j b
      → IsSame p (sum_of n v) (product (sum_of n a) (sum_of n b)) → IsSame p (sum_of n v) (polynomial_power base k)
  power_product base i j k a b v e ha hb same =
      IsSame_trans same
      (IsSame_trans (IsSame_product_both positive (sum_of n a) (sum_of n b) (polynomial_power base i) (polynomial_power base j) ha.same hb.same)
      (IsSame_sym (power_add positive base i j k e)))

  -- where it fits, the powers up to it do
  pub power_fits :
      (base : FormalSum n) (i j k : ℕ) (a b : List (CodeKey × ℕ))
      → IsPolynomial base → i + j ≡ k → IsPower ws p compare base i a → IsPower ws p compare base j b → ProductFits a b
      → PowersFit ws p base k
  power_fits base i j k a b poly e ha hb fits = PowersFit_of ws domain base i j k poly e both
    where
      both : (x y : Exponents n) → OccursInPolynomial p (polynomial_power base i) x → OccursInPolynomial p (polynomial_power base j) y → weighted_degree ws x + weighted_degree ws y ≤ 65535
      both x y ox oy =
          let t = HasMonomial_of order ws p a (polynomial_power base i) x ha.same ox in
          let u = HasMonomial_of order ws p b (polynomial_power base j) y hb.same oy in
          let dt = (each_at (IsTerm n ws p) a t.0 ha.vector.each t.1).weighed.degree in
          let du = (each_at (IsTerm n ws p) b u.0 hb.vector.each u.1).weighed.degree in
          let et : weighted_degree ws (exponents_of n t.0.0.monomial.exponents) ≡ weighted_degree ws x = ap (weighted_degree ws) t.2 in
          let eu : weighted_degree ws (exponents_of n u.0.0.monomial.exponents) ≡ weighted_degree ws y = ap (weighted_degree ws) u.2 in
          let le : t.0.0.monomial.degree + u.0.0.monomial.degree ≤ 65535 = each_at (λ w. t.0.0.monomial.degree + w.0.monomial.degree ≤ 65535) b u.0 (each_at (λ w. Fits w.0.monomial b) a t.0 fits t.1) u.1 in
          omega arith

  -- where it stops, two monomials of these powers do not fit
  pub power_stops :
      (base : FormalSum n) (i j k : ℕ) (a b : List (CodeKey × ℕ)) (stop : VectStop)
      → i + j ≤ k → IsPower ws p compare base i a → IsPower ws p compare base j b → PolynomialProductStops a b stop
      → PowerStops n ws p base k stop
  power_stops base i j k a b Memory le ha hb h = tt
  power_stops base i j k a b (Degree s t) le ha hb h = (
    i,
    j,
    le,
    Occurs_of order ws p a (polynomial_power base i) s ha.vector ha.positions ha.same h.0,
    Occurs_of order ws p b (polynomial_power base j) t hb.vector hb.positions hb.same h.1,
    h.2,
    weighed_of order ws p a s ha.vector h.0,
    weighed_of order ws p b t hb.vector h.1,
  )

  -- the degree of a power
  pub power_within :
      (base : List (CodeKey × ℕ)) (k d e : ℕ) (v : List (CodeKey × ℕ))
      → IsVector n ws p compare base → IsWithinDegree d base → e ≡ k * d → IsVector n ws p compare v
      → IsSame p (sum_of n v) (polynomial_power (sum_of n base) k) → IsWithinDegree e v
  power_within base k d e v vector within q hv same =
      subst (λ x. IsWithinDegree x v) (sym q)
      (IsWithinDegree_of order ws p v (k * d) hv
      (HasDegreeWithin_same (IsSame_sym same) (HasDegreeWithin_power (sum_of n base) k (HasDegreeWithin_of ws p base (each_weighed n ws p base vector.each) within))))

  -- within small degrees it stops for want of memory alone
  pub power_memory :
      (base : List (CodeKey × ℕ)) (k d : ℕ) (stop : VectStop)
      → IsVector n ws p compare base → IsWithinDegree d base → k * d ≤ 65535 → PowerStops n ws p (sum_of n base) k stop
      → stop ≡ Memory
  power_memory base k d Memory vector within small h = refl
  power_memory base k d (Degree s t) vector within small h =
      let bound : HasDegreeWithin ws p d (sum_of n base) = HasDegreeWithin_of ws p base (each_weighed n ws p base vector.each) within in
      let i : ℕ = h.0 in
      let j : ℕ = h.1 in
      let left : weighted_degree ws (exponents_of n s.exponents) ≤ i * d = Occurs_within (polynomial_power (sum_of n base) i) (exponents_of n s.exponents) (HasDegreeWithin_power (sum_of n base) i bound) h.3 in
      let right : weighted_degree ws (exponents_of n t.exponents) ≤ j * d = Occurs_within (polynomial_power (sum_of n base) j) (exponents_of n t.exponents) (HasDegreeWithin_power (sum_of n base) j bound) h.4 in
      let ds = h.6.degree in
      let dt = h.7.degree in
      let most : (i + j) * d ≤ k * d = mul-le-mul_right d h.2 in
      let split : (i + j) * d ≡ i * d + j * d = omega arith in
      let great : 65535 < s.degree + t.degree = h.5 in
      absurd (omega arith)

module _ (ring : Ring) (compare : (n : ℕ) → Key n → Key n → Ordering) {r : ℕ} (order : IsKeyOrder r (compare (variables ring))) (domain : IsDomain ring.modulus.value) (base : List (CodeKey × ℕ)) where
  -- the power of a sum of exponents
  pub IsPowerOver_product :
      (i j k : ℕ) (a b v : List (CodeKey × ℕ))
      → i + j ≡ k → HasPositions 1 base
      → IsPower ring.weights ring.modulus.value (compare (variables ring)) (sum_of (variables ring) base) i a
      → IsPower ring.weights ring.modulus.value (compare (variables ring)) (sum_of (variables ring) base) j b
      → ProductFits a b → IsVectorOver ring compare v → HasPositions 1 v
      → StandsFor ring v (product (sum_of (variables ring) a) (sum_of (variables ring) b))
      → IsPowerOver ring compare base k v
  IsPowerOver_product i j k a b v e polynomial ha hb fits vector positions same = record {
    power_is = record {
      vector = vector;
      positions = positions;
      same = power_product order ring.weights domain (sum_of (variables ring) base) i j k a b v e ha hb same;
    };
    fits = power_fits order ring.weights domain (sum_of (variables ring) base) i j k a b (IsPolynomial_of (variables ring) base polynomial) e ha hb fits;
  }

  -- the next power
  pub IsPowerOver_next :
      (k l : ℕ) (a v : List (CodeKey × ℕ))
      → k + 1 ≡ l → IsVectorOver ring compare base → HasPositions 1 base → IsPowerOver ring compare base k a
      → ProductFits a base → IsVectorOver ring compare v → HasPositions 1 v
      → StandsFor ring v (product (sum_of (variables ring) a) (sum_of (variables ring) base))
      → IsPowerOver ring compare base l v
  IsPowerOver_next k l a v e vector polynomial h = IsPowerOver_product k 1 l a base v e polynomial h.power_is (IsPower_itself order ring.weights domain base vector polynomial)

  -- why it is not made
  pub next_stops :
      (k l : ℕ) (a : List (CodeKey × ℕ)) (stop : VectStop)
      → k + 1 ≤ l → IsVectorOver ring compare base → HasPositions 1 base → IsPowerOver ring compare base k a
      → PolynomialProductStops a base stop → PowerStopsOver ring base l stop
  next_stops k l a stop le vector polynomial h =
      power_stops order ring.weights domain (sum_of (variables ring) base) k 1 l a base stop le h.power_is (IsPower_itself order ring.weights domain base vector polynomial)

  -- the same of a result
  pub next_result :
      {E : Type 0} (k l : ℕ) (a : List (CodeKey × ℕ)) (r : Result (List (CodeKey × ℕ)) E)
      → k + 1 ≡ l → IsVectorOver ring compare base → HasPositions 1 base → IsPowerOver ring compare base k a
      → OnOk r (ProductFits a base) → IfOk r (IsVectorOver ring compare) → IfOk r (HasPositions 1)
      → IfOk r (λ v. StandsFor ring v (product (sum_of (variables ring) a) (sum_of (variables ring) base)))
      → IfOk r (IsPowerOver ring compare base l)
  next_result k l a (Ok v) e vector polynomial h fits made positions same = IsPowerOver_next k l a v e vector polynomial h fits made positions same
  next_result k l a (Err stop) e vector polynomial h fits made positions same = tt

  -- the degrees of a result
  pub result_within :
      {E : Type 0} (k d : ℕ) (r : Result (List (CodeKey × ℕ)) E) → IsVectorOver ring compare base → IsWithinDegree d base → IfOk r (IsPowerOver ring compare base k)
      → IfOk r (IsWithinDegree (k * d))
  result_within k d (Ok v) vector within h = power_within order ring.weights domain base k d (k * d) v vector within refl h.power_is.vector h.power_is.same
  result_within k d (Err stop) vector within h = tt

  pub result_memory :
      {A : Type 0} (k d : ℕ) (r : Result A VectStop) → IsVectorOver ring compare base → IsWithinDegree d base → k * d ≤ 65535
      → IfErr r (PowerStopsOver ring base k) → OnErr r (r ≡ Err Memory)
  result_memory k d r vector within small h = one_err (PowerStopsOver ring base k) r Memory (λ stop s. power_memory order ring.weights domain base k d stop vector within small s) h

-- a residue stands for its number
pub constant_residue :
    (n p c r : ℕ) → r ≡ c % p → IsSame p (constant n r) (constant n c)
constant_residue n p c r e = record {
  by_key = λ k. IsCongruent_add (IsCongruent_multiply (subst (λ x. IsCongruent p x c) (sym e) (IsCongruent_mod p c)) (IsCongruent_refl p _)) (IsCongruent_refl p 0);
}
