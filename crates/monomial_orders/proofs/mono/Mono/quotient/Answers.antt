use Rattle.std.proofs.Common.{get_or, ℕ, ◌<◌, ap, ap₂, arith, length, refl, subst, sym, take, true, ◌-◌, ◌∙◌, ◌≡◌, ◌≤◌}
use Rattle.monomials.specs.Exponents.{Divides, exponents_of}
use Rattle.monomial_orders.proofs.Filling.{divides_stored, filled_at, filled_by, front_held, kept_at, kept_by, places_shown}
use Rattle.monomial_orders.proofs.Over.{divisor_degree, over_quotient, quotient_held}
use Rattle.monomial_orders.proofs.PlaceByPlace.{differences_cofactor}
use Rattle.monomial_orders.specs.Kept.{HaveCommonWeights, Monomial}
use Rattle.monomial_orders.specs.Monomials.{IsCofactor, IsPlaceByPlace}
use Rattle.monomial_orders.specs.Storage.{IsFilled, IsKept, IsStored, monomial_of, places_of, stored_variables}
use Rattle.monomial_orders.specs.declared.storage.Stored.{Stored}
use Rattle.monomial_orders.proofs.mono.Mono.quotient.Goals as goal

pub returns-then-not-divides-clause-ok : goal.returns-then-not-divides-clause-ok
returns-then-not-divides-clause-ok c = λ q.
    let d = subst (λ n. Divides (exponents_of n c.args.b.now.exponents) (exponents_of n c.args.a.now.exponents)) c.requires.variables q in
    let t : c.divides.result ≡ true = c.divides.ensures.value.1 d in
    cc

pub differences-requires-clause-left : goal.differences-requires-clause-left
differences-requires-clause-left c = subst (λ n. IsFilled n c.kept.result.now) (sym c.variables.ensures) c.kept.ensures.kept.filled

pub differences-requires-clause-right : goal.differences-requires-clause-right
differences-requires-clause-right c =
    subst (λ n. IsFilled n c.kept-2.result.now) (sym c.variables.ensures)
    (filled_at c.args.a.now c.args.b.now c.kept-2.result.now c.requires.variables c.kept-2.ensures)

pub differences-requires-clause-room : goal.differences-requires-clause-room
differences-requires-clause-room c =
    let t : c.divides.result ≡ true = cc in
    divides_stored c.args.b.now c.args.a.now c.kept-2.result.now c.kept.result.now (sym c.requires.variables) c.kept-2.ensures c.kept.ensures
    (c.divides.ensures.places.0 t)

-- what the call knows of its answer, which is stored as u
record Differs (a b : Monomial) (s t u : Stored) : Type 0 where
  variables : length a.exponents ≡ length b.exponents
  weights : HaveCommonWeights (length a.exponents) a b
  left : IsStored a s
  right : IsStored b t
  divides : (k : ℕ) → k < length b.exponents → get_or b.exponents k 0 ≤ get_or a.exponents k 0
  counted : stored_variables u ≡ length a.exponents
  places : IsPlaceByPlace ◌-◌ (places_of s) (places_of t) (places_of u)
  bounded : (k : ℕ) → get_or (places_of u) k 0 < 65536

-- the exponents of the quotient
cofactor :
    (a b : Monomial) (s t u : Stored) → Differs a b s t u
    → IsCofactor (length a.exponents) a.exponents b.exponents (take (length a.exponents) (places_of u))
cofactor a b s t u h =
    differences_cofactor a.exponents b.exponents _ h.variables (λ k lt. h.divides k (omega (arith, h.variables, lt)))
    (places_shown ◌-◌ a b s t u h.variables h.left h.right h.places)

no_greater : (a b : Monomial) (s t u : Stored) → Differs a b s t u → b.degree ≤ a.degree
no_greater a b s t u h = divisor_degree (length a.exponents) a b _ (cofactor a b s t u h) h.weights

kept : (a b : Monomial) (s t u : Stored) → Differs a b s t u → IsKept (length a.exponents) (a.degree - b.degree) u
kept a b s t u h =
    let n = length a.exponents in
    let d = a.degree - b.degree in
    let filled = filled_by ◌-◌ n s t u refl h.left.kept.filled (filled_at a b t h.variables h.right) h.places h.counted in
    kept_by ◌-◌ a b s t u d refl h.variables h.left h.right h.places h.counted h.bounded
    (front_held n u d filled (quotient_held n a b _ (cofactor a b s t u h) h.weights))
    (omega (arith, h.left.kept.narrow))

-- it, of what the calls ensure
differs :
    (a b : Monomial) (s t u : Stored) (n : ℕ) → length a.exponents ≡ length b.exponents → HaveCommonWeights (length a.exponents) a b
    → IsStored a s → IsStored b t → ((k : ℕ) → k < length b.exponents → get_or b.exponents k 0 ≤ get_or a.exponents k 0)
    → n ≡ length a.exponents → stored_variables u ≡ n → IsPlaceByPlace ◌-◌ (places_of s) (places_of t) (places_of u)
    → ((k : ℕ) → get_or (places_of u) k 0 < 65536) → Differs a b s t u
differs a b s t u n e w hs ht d q counted places bounded = record {
  variables = e;
  weights = w;
  left = hs;
  right = ht;
  divides = d;
  counted = subst (λ n. stored_variables u ≡ n) q counted;
  places = places;
  bounded = bounded;
}

pub overflow_sub-degree : goal.overflow_sub-degree
overflow_sub-degree c =
    let yes : c.divides.result ≡ true = cc in
    let a = c.args.a.now in
    let b = c.args.b.now in
    let h = differs a b c.kept.result.now c.kept-2.result.now c.in_ok-stored.stored c.variables.result
    c.requires.variables c.requires.weights c.kept.ensures c.kept-2.ensures
    (c.divides.ensures.places.0 yes) c.variables.ensures c.in_ok-stored.ensures.variables c.in_ok-stored.ensures.places c.in_ok-stored.ensures.bounded in
    omega (arith, no_greater a b c.kept.result.now c.kept-2.result.now c.in_ok-stored.stored h, c.degree.ensures.value, c.degree-2.ensures.value)

pub keep-requires : goal.keep-requires
keep-requires c =
    let yes : c.divides.result ≡ true = cc in
    let a = c.args.a.now in
    let b = c.args.b.now in
    let u = c.in_ok-stored.stored in
    let h = differs a b c.kept.result.now c.kept-2.result.now u c.variables.result c.requires.variables c.requires.weights c.kept.ensures c.kept-2.ensures
    (c.divides.ensures.places.0 yes) c.variables.ensures c.in_ok-stored.ensures.variables c.in_ok-stored.ensures.places c.in_ok-stored.ensures.bounded in
    subst (λ d. IsKept (stored_variables u) d u) (sym (ap₂ ◌-◌ c.degree.ensures.value c.degree-2.ensures.value))
    (kept_at (length a.exponents) (a.degree - b.degree) u h.counted (kept a b c.kept.result.now c.kept-2.result.now u h))

-- how the answer is shown
shown :
    (a b : Monomial) (s t u : Stored) (d e : ℕ) (m : Monomial) → Differs a b s t u → d ≡ a.degree → e ≡ b.degree
    → m ≡ monomial_of (stored_variables u) (d - e) u
    → IsCofactor (length a.exponents) a.exponents b.exponents m.exponents × (m.degree ≡ a.degree - b.degree)
shown a b s t u d e m h p q r =
    let n = length a.exponents in
    let is : m ≡ monomial_of n (a.degree - b.degree) u = r ∙ ap₂ (λ k d. monomial_of k d u) h.counted (ap₂ ◌-◌ p q) in
    (subst (λ (m : Monomial). IsCofactor n a.exponents b.exponents m.exponents) (sym is) (cofactor a b s t u h), ap (λ (m : Monomial). m.degree) is)

pub returns-clause-ok : goal.returns-clause-ok
returns-clause-ok c =
    let yes : c.divides.result ≡ true = cc in
    let a = c.args.a.now in
    let b = c.args.b.now in
    let u = c.in_ok-stored.stored in
    let h = differs a b c.kept.result.now c.kept-2.result.now u c.variables.result c.requires.variables c.requires.weights c.kept.ensures c.kept-2.ensures
    (c.divides.ensures.places.0 yes) c.variables.ensures c.in_ok-stored.ensures.variables c.in_ok-stored.ensures.places c.in_ok-stored.ensures.bounded in
    shown a b c.kept.result.now c.kept-2.result.now u c.degree.result c.degree-2.result c.keep.result h c.degree.ensures.value c.degree-2.ensures.value c.keep.ensures

pub returns-clause-weighed : goal.returns-clause-weighed
returns-clause-weighed c = λ ws h k.
    let is = returns-clause-ok c in
    over_quotient (length c.args.a.now.exponents) ws c.args.a.now c.args.b.now c.keep.result is.0 is.1 h k
