-- Vectors over a ring with one more variable in front
use Rattle.std.proofs.Common.{Bool, List, [], ap, append-nil, ap₂, arith, drop, false, get_or, length, map, refl, subst, suc, sym, true, zero, ℕ, ◌*◌, ◌++◌, ◌+◌, ◌-◌, ◌<◌, ◌∙◌, ◌∷◌, ◌≡◌}
use Rattle.std.proofs.lemmas.Bool.Decides.{nat_tests}
use Rattle.std.proofs.lemmas.List.{length-map, map-append}
use Rattle.std.specs.Ordering.{nat_cmp, ordering_then}
use Rattle.std.specs.Prelude.{Contains, nat_eq, ◌&&◌}
use Rattle.std.specs.declared.cmp.Ordering.TheVariants.{Greater}
use Rattle.monomials.proofs.Monomials.{times-unit}
use Rattle.monomials.specs.Exponents.{Exponents, cons, exponents_of, tail, times, unit}
use Rattle.monomials.specs.Weights.{weighted_degree}
use Rattle.formal_sums.proofs.Sameness.{IsSame_append, IsSame_of, IsSame_past, IsSame_refl, IsSame_scale, IsSame_trans}
use Rattle.formal_sums.specs.FormalSums.{Each, FormalSum, IsSame, product, scale}
use Rattle.orders.specs.KeyOrders.{Descends, top}
use Rattle.orders.specs.MonomialOrders.{first_variables, other_variables, reverse_lex}
use Rattle.orders.specs.WeightedOrders.{weighted_elimination, weighted_grevlex}
use Rattle.division_laws.specs.Elimination.{has_none_of_first}
use Rattle.syzygy_laws.specs.Kernels.{all_kept}
use Rattle.operation_laws.proofs.Linear.{IsSame_linear}
use Rattle.operation_laws.proofs.Multiply.{IsLinear_product_left}
use Rattle.operation_laws.proofs.Saturate.{single_vector}
use Rattle.operation_laws.specs.Operations.{back, basis_vector, eliminated, first_variable, inverse_vector, with_first, without_first}
use Rattle.monomial_orders.specs.Kept.{IsWeighed, Monomial}
use Rattle.monomial_orders.specs.Monomials.{IsMonomial, variable}
use Rattle.term_lists.specs.FrontVariables.{HaveNoFront, front_ring, with_front, without_front}
use Rattle.term_lists.specs.Rings.{ring_comparison, variables}
use Rattle.term_lists.specs.Stops.{HasMonomial, ScaledStops}
use Rattle.term_lists.specs.Vectors.{AreTermsOver, HasPositions, IsVectorOver, StandsFor, sum_of, sums_of}
use Rattle.term_lists.specs.declared.ring.Ring.{Ring}
use Rattle.term_lists.specs.declared.stop.VectStop.{VectStop}
use Rattle.term_lists.specs.declared.stop.VectStop.TheVariants.{Memory, Degree}
use Rattle.module_vectors.specs.ProductStops.{CombinationStops}
use Rattle.module_vectors.specs.declared.trail.KeptTrail.{KeptTrail}
use Rattle.syzygy_engine.specs.Runs.{AreVectorsFor}
use Rattle.syzygy_engine.proofs.Standing.{Terms}
use Rattle.syzygy_engine.proofs.VectorLists.{vectors_next, vectors_none}
use Rattle.ideal_ops.specs.Components.{positioned_at}
use Rattle.ideal_ops.specs.FrontSteps.{IsFrontMonomial, IsBehindFactor}
use Rattle.ideal_ops.specs.FrontVariable.{IsFrontTrail, IsFrontVector, front_polynomial, rest_polynomial}
use Rattle.ideal_ops.specs.Products.{IsProductTrail}
use Rattle.ideal_ops.proofs.Dividing.{sum_placed}
use Rattle.ideal_ops.proofs.Free.{free_kept, free_left}

-- ---- the new variable
pub front_monomial :
    (ring r : Ring) (m : Monomial) → r ≡ front_ring ring → IsMonomial (length r.weights) (variable (length r.weights) 0) m.exponents
    → IsWeighed (length r.weights) r.weights m → IsFrontMonomial ring m
front_monomial ring r m e is w =
    let is' = subst (λ q. IsMonomial (length q.weights) (variable (length q.weights) 0) m.exponents) e is in
    let w' = subst (λ q. IsWeighed (length q.weights) q.weights m) e w in
    record {
      weighed = subst (λ k. IsWeighed (suc k) (1 ∷ ring.weights) m) ring.weighted w';
      exponents = subst (λ k. exponents_of (suc k) m.exponents ≡ first_variable k) ring.weighted is'.exponents;
    }

-- ---- vectors of the ring
pub sum_with_front : (n : ℕ) (v : Terms) → sum_of (suc n) (with_front v) ≡ with_first (sum_of n v)
sum_with_front n [] = refl
sum_with_front n (t ∷ v) = ap (λ z. ((t.0.position, cons 0 (exponents_of n t.0.monomial.exponents)), t.1) ∷ z) (sum_with_front n v)

pub over_with_front : (ring : Ring) (v : Terms) → AreTermsOver ring v → AreTermsOver (front_ring ring) (with_front v)
over_with_front ring [] h = tt
over_with_front ring (t ∷ v) h = (
  (
    record {
      variables = ap suc h.0.0.variables;
      degree = let d = h.0.0.degree in
          d ∙ omega arith;
    },
    h.0.1,
  ),
  over_with_front ring v h.1,
)

pub front_vector :
    (ring r : Ring) (v u : Terms) → r ≡ front_ring ring → IsVectorOver r (ring_comparison r) u → StandsFor r u (sum_of (variables r) (with_front v))
    → IsFrontVector ring (with_first (sum_of (variables ring) v)) u
front_vector ring r v u e h s = record {
  vector = subst (λ q. IsVectorOver q (ring_comparison q) u) e h;
  stand = subst (λ w. StandsFor (front_ring ring) u w) (sum_with_front (variables ring) v) (subst (λ q. StandsFor q u (sum_of (variables q) (with_front v))) e s);
}

-- ---- multiples
same_multiple :
    (ring : Ring) (c : ℕ) (t : Monomial) (u : Terms) (g : FormalSum (suc (variables ring))) → 0 < ring.modulus.value → IsFrontMonomial ring t
    → IsFrontVector ring g u → IsSame ring.modulus.value (scale c (exponents_of (suc (variables ring)) t.exponents) (sum_of (suc (variables ring)) u)) (scale c (first_variable (variables ring)) g)
same_multiple ring c t u g pos ht hu =
    IsSame_trans (IsSame_of ring.modulus.value _ _ (ap (λ x. scale c x (sum_of (suc (variables ring)) u)) ht.exponents)) (IsSame_scale pos c (first_variable (variables ring)) hu.stand)

pub front_multiple :
    (ring r : Ring) (c : ℕ) (t : Monomial) (u w : Terms) (g : FormalSum (suc (variables ring))) → 0 < ring.modulus.value → r ≡ front_ring ring → IsFrontMonomial ring t
    → IsFrontVector ring g u → IsVectorOver r (ring_comparison r) w → StandsFor r w (scale c (exponents_of (variables r) t.exponents) (sum_of (variables r) u))
    → IsFrontVector ring (scale c (first_variable (variables ring)) g) w
front_multiple ring r c t u w g pos e ht hu hw s = record {
  vector = subst (λ q. IsVectorOver q (ring_comparison q) w) e hw;
  stand = IsSame_trans (subst (λ q. StandsFor q w (scale c (exponents_of (variables q) t.exponents) (sum_of (variables q) u))) e s) (same_multiple ring c t u g pos ht hu);
}

-- the parts of a sum change places
pub IsSame_swap : {n p : ℕ} (v w : FormalSum n) → IsSame p (v ++ w) (w ++ v)
IsSame_swap {n} {p} v w =
    IsSame_trans (IsSame_past v w w [] (IsSame_of p _ _ (sym (append-nil w)))) (IsSame_of p _ _ (ap (λ z. w ++ z) (append-nil v)))

pub rest_multiple :
    (ring r : Ring) (c : ℕ) (t : Monomial) (u w : Terms) (g : FormalSum (suc (variables ring))) → 0 < ring.modulus.value → r ≡ front_ring ring → IsFrontMonomial ring t
    → IsFrontVector ring g u → IsVectorOver r (ring_comparison r) w
    → StandsFor r w (scale c (exponents_of (variables r) t.exponents) (sum_of (variables r) u) ++ sum_of (variables r) u)
    → IsFrontVector ring (g ++ scale c (first_variable (variables ring)) g) w
rest_multiple ring r c t u w g pos e ht hu hw s = record {
  vector = subst (λ q. IsVectorOver q (ring_comparison q) w) e hw;
  stand = IsSame_trans (subst (λ q. StandsFor q w (scale c (exponents_of (variables q) t.exponents) (sum_of (variables q) u) ++ sum_of (variables q) u)) e s)
      (IsSame_trans (IsSame_append (same_multiple ring c t u g pos ht hu) hu.stand) (IsSame_swap (scale c (first_variable (variables ring)) g) g));
}

-- ---- the polynomials t and 1 - t
first_alone : (n : ℕ) → times (first_variable n) (cons 0 (unit n)) ≡ first_variable n
first_alone n = ap (λ x. cons 1 x) (times-unit (unit n))

pub variable_stands :
    (ring : Ring) (t : Monomial) (b : Terms) → IsFrontMonomial ring t → b ≡ (record { position = 0; monomial = t }, 1) ∷ []
    → sum_of (suc (variables ring)) b ≡ front_polynomial (variables ring)
variable_stands ring t b ht e =
    let n = variables ring in
    ap (λ v. sum_of (suc n) v) e ∙ ap (λ x. ((0, x), 1) ∷ []) (ht.exponents ∙ sym (first_alone n))

pub variable_front :
    (ring r : Ring) (t : Monomial) (b : Terms) → r ≡ front_ring ring → IsFrontMonomial ring t → IsVectorOver r (ring_comparison r) b
    → b ≡ (record { position = 0; monomial = t }, 1) ∷ [] → IsFrontVector ring (front_polynomial (variables ring)) b
variable_front ring r t b e ht h is = record {
  vector = subst (λ q. IsVectorOver q (ring_comparison q) b) e h;
  stand = IsSame_of ring.modulus.value _ _ (variable_stands ring t b ht is);
}

pub rest_front :
    (ring r : Ring) (t : Monomial) (b : Terms) → r ≡ front_ring ring → IsFrontMonomial ring t → IsVectorOver r (ring_comparison r) b
    → IsBehindFactor ring t b → IsFrontVector ring (rest_polynomial (variables ring) ring.modulus.value) b
rest_front ring r t b e ht h is =
    let n = variables ring in
    let p = ring.modulus.value in
    let m : (p - 1) * 1 ≡ p - 1 = omega arith in
    record {
      vector = subst (λ q. IsVectorOver q (ring_comparison q) b) e h;
      stand = IsSame_trans (IsSame_of p _ _ (ap (λ v. sum_of (suc n) v) is.terms_are ∙ ap₂ (λ x y. ((0, x), p - 1) ∷ ((0, y), 1) ∷ []) ht.exponents is.exponents))
          (IsSame_trans (IsSame_swap (((0, first_variable n), p - 1) ∷ []) (((0, unit (suc n)), 1) ∷ []))
          (IsSame_of p _ _ (ap₂ (λ x c. ((0, unit (suc n)), 1) ∷ ((0, x), c) ∷ []) (sym (first_alone n)) (sym m))));
    }

greater_cmp : (a b : ℕ) → b < a → nat_cmp a b ≡ Greater
greater_cmp a b h = grind (arith, nat_tests)

-- the new variable is above 1
above_one : (ws : List ℕ) (n : ℕ) → top (weighted_elimination (1 ∷ ws) 1) (0, first_variable n) (0, unit (suc n)) ≡ Greater
above_one ws n =
    let w = weighted_degree ws (first_variables 0 (unit n)) in
    let e : nat_cmp (weighted_degree (1 ∷ ws) (cons 1 (first_variables 0 (unit n)))) (weighted_degree (1 ∷ ws) (cons 0 (first_variables 0 (unit n)))) ≡ Greater =
    greater_cmp (1 * 1 + w) (1 * 0 + w) (omega arith) in
    ap (λ o. ordering_then (ordering_then (ordering_then o (reverse_lex (first_variables 1 (first_variable n)) (first_variables 1 (unit (suc n)))))
    (weighted_grevlex (1 ∷ ws) (other_variables 1 (first_variable n)) (other_variables 1 (unit (suc n))))) (nat_cmp 0 0)) e

pub rest_descends :
    (ring : Ring) (t one : Monomial) (c : ℕ) → IsFrontMonomial ring t → exponents_of (suc (variables ring)) one.exponents ≡ unit (suc (variables ring))
    → Descends (ring_comparison (front_ring ring) (suc (variables ring)))
    (sum_of (suc (variables ring)) ((record { position = 0; monomial = t }, c) ∷ (record { position = 0; monomial = one }, 1) ∷ []))
rest_descends ring t one c ht e =
    let n = variables ring in (
      (
        ap₂ (λ x y. top (weighted_elimination (1 ∷ ring.weights) 1) (0, x) (0, y)) ht.exponents e ∙ above_one ring.weights n,
        tt,
      ),
      (tt, tt),
    )

-- the terms -t and 1 are a vector
pub rest_over :
    (ring r : Ring) (t one : Monomial) (c : ℕ) → r ≡ front_ring ring → IsFrontMonomial ring t → 1 < ring.modulus.value → c ≡ ring.modulus.value - 1
    → IsMonomial (length r.vars) (unit (length r.vars)) one.exponents → ((ws : List ℕ) → IsWeighed (length r.vars) ws one)
    → IsVectorOver r (ring_comparison r) ((record { position = 0; monomial = t }, c) ∷ (record { position = 0; monomial = one }, 1) ∷ [])
rest_over ring r t one c e ht above ec is weighed =
    let n = variables ring in
    let is' = subst (λ q. IsMonomial (length q.vars) (unit (length q.vars)) one.exponents) e is in
    let w' = subst (λ q. IsWeighed (length q.vars) (1 ∷ ring.weights) one) e (weighed (1 ∷ ring.weights)) in
    subst (λ q. IsVectorOver q (ring_comparison q) ((record { position = 0; monomial = t }, c) ∷ (record { position = 0; monomial = one }, 1) ∷ [])) (sym e)
    (record {
      each = (
        record { weighed = ht.weighed; nonzero = omega (arith, above, ec); reduced = omega (arith, above, ec) },
        (record { weighed = w'; nonzero = omega arith; reduced = above }, tt),
      );
      descends = rest_descends ring t one c ht is'.exponents;
    })

pub rest_is :
    (ring r : Ring) (t one : Monomial) (c : ℕ) (b : Terms) → r ≡ front_ring ring → c ≡ ring.modulus.value - 1 → IsMonomial (length r.vars) (unit (length r.vars)) one.exponents
    → b ≡ (record { position = 0; monomial = t }, c) ∷ (record { position = 0; monomial = one }, 1) ∷ [] → IsBehindFactor ring t b
rest_is ring r t one c b e ec is whole = record {
  one = one;
  exponents = (subst (λ q. IsMonomial (length q.vars) (unit (length q.vars)) one.exponents) e is).exponents;
  terms_are = whole ∙ ap (λ x. (record { position = 0; monomial = t }, x) ∷ (record { position = 0; monomial = one }, 1) ∷ []) ec;
}

-- ---- stops
each_at : {X : Type 0} (P : X → Type 0) (d : X) (xs : List X) (i : ℕ) → Each P xs → i < length xs → P (get_or xs i d)
each_at P d [] i h lt = absurd (omega (arith, lt))
each_at P d (x ∷ xs) zero h lt = h.0
each_at P d (x ∷ xs) (suc i) h lt = each_at P d xs i h.1 (omega (arith, lt))

-- the trail of a product over the ring with the new variable
pub front_trail :
    (ring r : Ring) (B : FormalSum (suc (variables ring))) (G : List (FormalSum (suc (variables ring)))) (b : Terms) (members : List Terms) (k : ℕ) → r ≡ front_ring ring
    → IsFrontVector ring B b → AreVectorsFor (front_ring ring) G members → (t : KeptTrail) → IsProductTrail r b members k t → IsFrontTrail ring B G k t
front_trail ring r B G b members k e hb hm t h =
    record { vector = b; vector_for = hb; members = members; members_for = hm; trail = subst (λ q. IsProductTrail q b members k t) e h }

-- one vector of the ring with the new variable is a list of vectors of it
pub front_alone : (ring : Ring) (g : FormalSum (suc (variables ring))) (u : Terms) → IsFrontVector ring g u → AreVectorsFor (front_ring ring) (g ∷ []) (u ∷ [])
front_alone ring g u h = vectors_next (front_ring ring) [] [] u g (vectors_none (front_ring ring)) h.vector h.stand

-- and a list of them has such vectors
pub front_at :
    (ring : Ring) (G : List (FormalSum (suc (variables ring)))) (list : List Terms) (i : ℕ) → AreVectorsFor (front_ring ring) G list → i < length list
    → IsFrontVector ring (get_or G i []) (get_or list i [])
front_at ring G list i h lt = record {
  vector = each_at (IsVectorOver (front_ring ring) (ring_comparison (front_ring ring))) [] list i h.vectors lt;
  stand = h.stand.each i;
}

pub moved_at : (n : ℕ) (list : List Terms) (i : ℕ) → get_or (map with_first (sums_of n list)) i [] ≡ with_first (sum_of n (get_or list i []))
moved_at n [] i = refl
moved_at n (v ∷ list) zero = refl
moved_at n (v ∷ list) (suc i) = moved_at n list i

-- the vectors moved are as many as the list has
pub moved_count : (ring : Ring) (list moved : List Terms) → AreVectorsFor (front_ring ring) (map with_first (sums_of (variables ring) list)) moved → length moved ≡ length list
moved_count ring list moved h =
    h.stand.count ∙ length-map (sums_of (variables ring) list) with_first ∙ length-map list (λ v. sum_of (variables ring) v)

pub rest_low : (ring : Ring) (t : Monomial) (b : Terms) → IsBehindFactor ring t b → HasPositions 1 b
rest_low ring t b is = subst (HasPositions 1) (sym is.terms_are) (omega arith, (omega arith, tt))

pub one_low : (t : Monomial) (b : Terms) → b ≡ (record { position = 0; monomial = t }, 1) ∷ [] → HasPositions 1 b
one_low t b is = subst (HasPositions 1) (sym is) (omega arith, tt)

pub variable_stops : (t : Monomial) (u : Terms) (stop : VectStop) → ScaledStops 1 t u stop → CombinationStops ((record { position = 0; monomial = t }, 1) ∷ []) (u ∷ []) stop
variable_stops t u Memory h = h
variable_stops t u (Degree a b) h = ((record { position = 0; monomial = t }, 1), (0, omega arith, refl), h.1, h.2, h.3)

pub rest_stops :
    (ring : Ring) (t : Monomial) (b u : Terms) (c : ℕ) (stop : VectStop) → IsBehindFactor ring t b → ScaledStops c t u stop → CombinationStops b (u ∷ []) stop
rest_stops ring t b u c Memory is h = h
rest_stops ring t b u c (Degree x y) is h =
    subst (λ v. CombinationStops v (u ∷ []) (Degree x y)) (sym is.terms_are)
    ((record { position = 0; monomial = t }, ring.modulus.value - 1), (0, omega arith, refl), h.1, h.2, h.3)

pub turned_stops :
    (t : Monomial) (u one : Terms) (c : ℕ) (a b : Monomial) → HasPositions 1 u → one ≡ (record { position = 0; monomial = t }, 1) ∷ []
    → ScaledStops c t u (Degree a b) → CombinationStops u (one ∷ []) (Degree b a)
turned_stops t u one c a b low is h =
    let x = h.2.0 in
    let inside : Contains u x = h.2.1 in
    let z : x.0.position ≡ 0 = let k = subst (λ y. y.0.position < 1) inside.2 (each_at (λ y. y.0.position < 1) x u inside.0 low inside.1) in omega (arith, k) in
    let has : HasMonomial one a = subst (λ v. HasMonomial v a) (sym is) ((record { position = 0; monomial = t }, 1), (0, omega arith, refl), sym h.1) in
    (x, inside, sym h.2.2, subst (λ i. HasMonomial (get_or (one ∷ []) i []) a) (sym z) has, (let g : 65535 < a.degree + b.degree = h.3 in omega (arith, g)))

-- ---- (1 - t f) e_j
abbrev moved : {n : ℕ} → ℕ → FormalSum n → FormalSum n
moved j v = map (λ t. ((j, t.0.1), t.1)) v

product_moved : {n : ℕ} (j : ℕ) (v : FormalSum n) → product v (basis_vector j) ≡ moved j v
product_moved j [] = refl
product_moved j (t ∷ v) = ap₂ ◌++◌ (single_vector ((j, t.0.1), t.1)) (product_moved j v)

moved_scale : {n : ℕ} (j c : ℕ) (e : Exponents (suc n)) (f : FormalSum n) → moved j (scale c e (with_first f)) ≡ scale c e (with_first (moved j f))
moved_scale j c e [] = refl
moved_scale j c e (t ∷ f) = ap (λ z. ((j, times e (cons 0 t.0.1)), c * t.1) ∷ z) (moved_scale j c e f)

pub inverse_front :
    (ring r : Ring) (w terms u : Terms) (j : ℕ) (f : FormalSum (variables ring)) → 0 < ring.modulus.value → r ≡ front_ring ring
    → StandsFor (front_ring ring) w (scale (ring.modulus.value - 1) (first_variable (variables ring)) (with_first f))
    → sum_of (variables r) terms ≡ sum_of (variables r) (positioned_at j w) ++ basis_vector j → IsVectorOver r (ring_comparison r) u → StandsFor r u (sum_of (variables r) terms)
    → IsFrontVector ring (inverse_vector ring.modulus.value f j) u
inverse_front ring r w terms u j f pos e hw whole hu s =
    let n = variables ring in
    let p = ring.modulus.value in
    let X = scale (p - 1) (first_variable n) (with_first f) in
    let whole' = subst (λ q. sum_of (variables q) terms ≡ sum_of (variables q) (positioned_at j w) ++ basis_vector j) e whole in
    let s' = subst (λ q. StandsFor q u (sum_of (variables q) terms)) e s in
    let first : IsSame p (sum_of (suc n) (positioned_at j w)) (scale (p - 1) (first_variable n) (with_first (product f (basis_vector j)))) =
    IsSame_trans (IsSame_of p _ _ (sum_placed (suc n) j w))
    (IsSame_trans (IsSame_linear pos (λ v. product v (basis_vector j)) (IsLinear_product_left (basis_vector j)) (sum_of (suc n) w) X hw)
    (IsSame_of p _ _ (product_moved j X ∙ moved_scale j (p - 1) (first_variable n) f ∙ ap (λ v. scale (p - 1) (first_variable n) (with_first v)) (sym (product_moved j f))))) in
    record {
      vector = subst (λ q. IsVectorOver q (ring_comparison q) u) e hu;
      stand = IsSame_trans s' (IsSame_trans (IsSame_of p _ _ whole') (IsSame_trans (IsSame_append first (IsSame_refl p (basis_vector j)))
          (IsSame_swap (scale (p - 1) (first_variable n) (with_first (product f (basis_vector j)))) (basis_vector j))));
    }

-- ---- back
tail_of : (n : ℕ) (xs : List ℕ) → exponents_of n (drop 1 xs) ≡ tail (exponents_of (suc n) xs)
tail_of n [] = refl
tail_of n (x ∷ xs) = refl

pub sum_without_front : (n : ℕ) (v : Terms) → sum_of n (without_front v) ≡ without_first (sum_of (suc n) v)
sum_without_front n [] = refl
sum_without_front n (t ∷ v) = ap₂ (λ x z. ((t.0.position, x), t.1) ∷ z) (tail_of n t.0.monomial.exponents) (sum_without_front n v)

and_both : (a b : Bool) → (a && b) ≡ true → (a ≡ true) × (b ≡ true)
and_both true b e = (refl, e)
and_both false b e = absurd (cc)

is_zero : (a : ℕ) → nat_eq a 0 ≡ true → a ≡ 0
is_zero a e = grind (arith, nat_tests)

none_in_front :
    (n : ℕ) (ws xs : List ℕ) (d : ℕ) → IsWeighed (suc n) (1 ∷ ws) (record { exponents = xs; degree = d }) → has_none_of_first 1 (0, exponents_of (suc n) xs) ≡ true
    → (get_or xs 0 0 ≡ 0) × IsWeighed n ws (record { exponents = drop 1 xs; degree = d })
none_in_front n ws [] d w e = let a : 0 ≡ suc n = w.variables in absurd (omega (arith, a))
none_in_front n ws (x ∷ xs) d w e =
    let z = is_zero x (and_both (nat_eq x 0) _ e).0 in
    let a : suc (length xs) ≡ suc n = w.variables in
    let b : d ≡ 1 * x + weighted_degree ws (exponents_of n xs) = w.degree in (
      z,
      record {
        variables = omega (arith, a);
        degree = omega (arith, b, z);
      },
    )

pub record AreBack (ring : Ring) (v : Terms) : Type 0 where
  pub some : Each (λ t. 0 < length t.0.monomial.exponents) v
  pub none : HaveNoFront v
  pub over : AreTermsOver ring (without_front v)

pub are_back : (ring : Ring) (v : Terms) → AreTermsOver (front_ring ring) v → all_kept (has_none_of_first 1) (sum_of (suc (variables ring)) v) ≡ true → AreBack ring v
are_back ring [] h e = record { some = tt; none = tt; over = tt }
are_back ring (t ∷ v) h e =
    let n = variables ring in
    let both = and_both (has_none_of_first 1 (t.0.position, exponents_of (suc n) t.0.monomial.exponents)) (all_kept (has_none_of_first 1) (sum_of (suc n) v)) e in
    let rest = are_back ring v h.1 both.1 in
    let first = none_in_front n ring.weights t.0.monomial.exponents t.0.monomial.degree h.0.0 both.0 in
    record {
      some = ((let a : length t.0.monomial.exponents ≡ suc n = h.0.0.variables in omega (arith, a)), rest.some);
      none = (first.0, rest.none);
      over = ((first.1, h.0.1), rest.over);
    }

pub back_next : {n : ℕ} (G : List (FormalSum (suc n))) (g : FormalSum (suc n)) → all_kept (has_none_of_first 1) g ≡ true → back (G ++ g ∷ []) ≡ back G ++ without_first g ∷ []
back_next G g e = ap (map without_first) (free_kept 1 G g e) ∙ map-append without_first (eliminated 1 G) (g ∷ [])

pub back_left : {n : ℕ} (G : List (FormalSum (suc n))) (g : FormalSum (suc n)) → all_kept (has_none_of_first 1) g ≡ false → back (G ++ g ∷ []) ≡ back G
back_left G g e = ap (map without_first) (free_left 1 G g e)
