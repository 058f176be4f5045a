-- Lists of unit vectors
use Rattle.std.proofs.Common.{Equal, Greater, List, [], ap, ap₂, arith, get_or, length, refl, subst, suc, sym, take, zero, ℕ, ◌++◌, ◌+◌, ◌<◌, ◌∙◌, ◌∷◌, ◌≡◌}
use Rattle.std.proofs.lemmas.List.{length-map}
use Rattle.std.specs.Cmp.{nat_cmp_is}
use Rattle.std.specs.Ordering.{nat_cmp, ordering_then}
use Rattle.monomials.specs.Exponents.{unit}
use Rattle.formal_sums.proofs.WeightedSums.{Each_append}
use Rattle.formal_sums.specs.FormalSums.{FormalSum}
use Rattle.orders.proofs.KeyOrdering.{equal_itself}
use Rattle.orders.proofs.Lexicographic.{then_equal_left}
use Rattle.operation_laws.specs.Operations.{basis_vector, listed}
use Rattle.monomial_orders.specs.Comparisons.{comparison, key_comparison}
use Rattle.monomial_orders.specs.Kept.{IsWeighed, Monomial}
use Rattle.monomial_orders.specs.Laws.{key_comparison_order}
use Rattle.monomial_orders.specs.Monomials.{IsMonomial}
use Rattle.monomial_orders.specs.declared.order.ModOrder.{ModOrder}
use Rattle.monomial_orders.specs.declared.order.ModOrder.TheVariants.{Pot, Top}
use Rattle.ext_laws.proofs.Units.{unit_at, units_count}
use Rattle.ext_laws.specs.Transposes.{HasDescendingUnits, unit_vectors}
use Rattle.term_lists.specs.Rings.{ring_comparison, setting, variables}
use Rattle.term_lists.specs.Vectors.{IsVectorOver, sum_of, sums_of}
use Rattle.term_lists.specs.declared.ring.Ring.{Ring}
use Rattle.vector_division.proofs.Members.{sums_at}
use Rattle.ext_modules.specs.Units.{AreUnits}
use Rattle.ext_modules.proofs.Putting.{Terms, take_next}

-- the unit vectors descend in each order of a ring
pub descending : (ring : Ring) (r : ℕ) → HasDescendingUnits (setting ring (variables ring) (ring_comparison ring (variables ring)) r)
descending ring r i j lt = go ring.module_order
  where
    later : nat_cmp j i ≡ Greater
    later = sym (nat_cmp_is j i Greater lt)

    go : (o : ModOrder) → key_comparison o ring.order ring.weights (variables ring) (i, unit (variables ring)) (j, unit (variables ring)) ≡ Greater
    go Pot = ap (λ x. ordering_then x (comparison ring.order ring.weights (variables ring) (unit (variables ring)) (unit (variables ring)))) later
    go Top =
        let same : key_comparison Top ring.order ring.weights (variables ring) (i, unit (variables ring)) (i, unit (variables ring)) ≡ Equal =
        equal_itself (key_comparison_order Top ring.order ring.weights (variables ring) 0) (i, unit (variables ring)) in
        ap (λ x. ordering_then x (nat_cmp j i)) (then_equal_left _ _ same) ∙ later

-- ---- one unit vector
pub one_term_vector :
    (ring : Ring) (position : ℕ) (m : Monomial) (terms : Terms) → 1 < ring.modulus.value → IsWeighed (variables ring) ring.weights m
    → terms ≡ (record { position = position; monomial = m }, 1) ∷ [] → IsVectorOver ring (ring_comparison ring) terms
one_term_vector ring position m terms big weighed e =
    subst (IsVectorOver ring (ring_comparison ring)) (sym e) (record {
      each = (record { weighed = weighed; nonzero = (let z : 0 < 1 = omega arith in z); reduced = big }, tt);
      descends = (tt, tt);
    })

pub one_term_sum :
    (n position : ℕ) (m : Monomial) (terms : Terms) → IsMonomial n (unit n) m.exponents → terms ≡ (record { position = position; monomial = m }, 1) ∷ []
    → sum_of n terms ≡ basis_vector position
one_term_sum n position m terms one e = ap (sum_of n) e ∙ ap (λ x. ((position, x), 1) ∷ []) one.exponents

-- ---- one more
units_from : {n : ℕ} (i m : ℕ) → listed {X = FormalSum n} i (m + 1) basis_vector ≡ listed i m basis_vector ++ basis_vector (i + m) ∷ []
units_from {n} i m = let s : suc m ≡ m + 1 = omega arith in ap (λ z. listed {X = FormalSum n} i z basis_vector) (sym s) ∙ go i m
  where
    go : (i m : ℕ) → listed {X = FormalSum n} i (suc m) basis_vector ≡ listed i m basis_vector ++ basis_vector (i + m) ∷ []
    go i zero = let q : i ≡ i + 0 = omega arith in ap (λ z. basis_vector z ∷ []) q
    go i (suc m) =
        let q : suc i + m ≡ i + suc m = omega arith in
        ap (λ l. basis_vector i ∷ l) (go (suc i) m ∙ ap (λ z. listed {X = FormalSum n} (suc i) m basis_vector ++ basis_vector z ∷ []) q)

pub units_more : (n m : ℕ) → unit_vectors {n = n} (m + 1) ≡ unit_vectors m ++ basis_vector m ∷ []
units_more n m =
    let zero_plus : 0 + m ≡ m = omega arith in
    units_from {n = n} 0 m ∙ ap (λ z. unit_vectors {n = n} m ++ basis_vector z ∷ []) zero_plus

sums-append : (n : ℕ) (list more : List Terms) → sums_of n (list ++ more) ≡ sums_of n list ++ sums_of n more
sums-append n [] more = refl
sums-append n (v ∷ list) more = ap (λ z. sum_of n v ∷ z) (sums-append n list more)

pub units_next :
    (ring : Ring) (count : ℕ) (list : List Terms) (v : Terms) → AreUnits ring count list → IsVectorOver ring (ring_comparison ring) v
    → sum_of (variables ring) v ≡ basis_vector count → AreUnits ring (count + 1) (list ++ v ∷ [])
units_next ring count list v h vector e = record {
  vectors = Each_append _ list (v ∷ []) h.vectors (vector, tt);
  units =
      sums-append (variables ring) list (v ∷ []) ∙ ap₂ (λ l x. l ++ x ∷ []) h.units e ∙ sym (units_more (variables ring) count);
}

-- ---- the test
-- the first i of a list are unit vectors, and so is the next
pub units_so_far :
    (n i : ℕ) (list : List Terms) (v : Terms) → i < length list → v ≡ get_or list i v → sums_of n (take i list) ≡ unit_vectors i → sum_of n v ≡ basis_vector i
    → sums_of n (take (i + 1) list) ≡ unit_vectors (i + 1)
units_so_far n i list v lt at before e =
    ap (sums_of n) (take_next v list i lt) ∙ sums-append n (take i list) (get_or list i v ∷ []) ∙ ap₂ (λ l x. l ++ x ∷ []) before (ap (sum_of n) (sym at) ∙ e)
    ∙ sym (units_more n i)

-- each member of a list of unit vectors is one
pub unit_in :
    (n i count : ℕ) (list : List Terms) (v : Terms) → i < length list → length list ≡ count → v ≡ get_or list i v → sums_of n list ≡ unit_vectors count
    → sum_of n v ≡ basis_vector i
unit_in n i count list v lt all at e =
    ap (sum_of n) (at ∙ default list i lt) ∙ sym (sums_at n list i) ∙ ap (λ l. get_or l i []) e ∙ unit_at n count i (omega (arith, lt, all))
  where
    default : (list : List Terms) (i : ℕ) → i < length list → get_or list i v ≡ get_or list i []
    default [] i lt = absurd (omega (arith, lt))
    default (x ∷ list) zero lt = refl
    default (x ∷ list) (suc i) lt = default list i (omega (arith, lt))

pub units_length : (n count : ℕ) (list : List Terms) → sums_of n list ≡ unit_vectors count → length list ≡ count
units_length n count list e = sym (length-map list (λ v. sum_of n v)) ∙ ap length e ∙ units_count n count
