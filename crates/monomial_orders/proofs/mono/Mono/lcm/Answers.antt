use Rattle.std.proofs.Common.{ap, arith, length, max, refl, subst, sym, take, ◌<◌, ◌∙◌, ◌≡◌}
use Rattle.monomials.specs.Exponents.{exponents_of}
use Rattle.monomials.specs.Weights.{weighted_degree}
use Rattle.monomial_orders.proofs.Filling.{filled_at, filled_by, kept_at, kept_by, places_shown}
use Rattle.monomial_orders.proofs.PlaceByPlace.{maxima_monomial}
use Rattle.monomial_orders.specs.Kept.{IsWeighed, Monomial}
use Rattle.monomial_orders.specs.Monomials.{IsPlaceByPlace}
use Rattle.monomial_orders.specs.Storage.{IsFilled, monomial_of, places_of, stored_variables}
use Rattle.monomial_orders.proofs.mono.Mono.lcm.Goals as goal

pub maxima-requires-clause-left : goal.maxima-requires-clause-left
maxima-requires-clause-left c = subst (λ n. IsFilled n c.kept.result.now) (sym c.variables-n.ensures) c.kept.ensures.kept.filled

pub maxima-requires-clause-right : goal.maxima-requires-clause-right
maxima-requires-clause-right c =
    subst (λ n. IsFilled n c.kept-2.result.now) (sym c.variables-n.ensures)
    (filled_at c.args.a.now c.args.b.now c.kept-2.result.now c.requires.variables c.kept-2.ensures)

pub degree_of-degree-requires-clause-weights : goal.degree_of-degree-requires-clause-weights
degree_of-degree-requires-clause-weights c = c.requires.weights ∙ sym c.variables-n.ensures

pub degree_of-degree-requires-clause-filled : goal.degree_of-degree-requires-clause-filled
degree_of-degree-requires-clause-filled c =
    filled_by max c.variables-n.result c.kept.result.now c.kept-2.result.now c.in_ok-stored.stored refl
    (subst (λ n. IsFilled n c.kept.result.now) (sym c.variables-n.ensures) c.kept.ensures.kept.filled)
    (subst (λ n. IsFilled n c.kept-2.result.now) (sym c.variables-n.ensures)
    (filled_at c.args.a.now c.args.b.now c.kept-2.result.now c.requires.variables c.kept-2.ensures))
    c.in_ok-stored.ensures.places c.in_ok-stored.ensures.variables

pub keep-requires : goal.keep-requires
keep-requires c =
    let u = c.in_ok-stored.stored in
    let n = length c.args.a.now.exponents in
    let d = c.degree_of-degree.result in
    let small : d < 4294967296 = omega arith in
    let counted = subst (λ n. stored_variables u ≡ n) c.variables-n.ensures c.in_ok-stored.ensures.variables in
    kept_at n d u counted
    (kept_by max c.args.a.now c.args.b.now c.kept.result.now c.kept-2.result.now u d refl c.requires.variables
    c.kept.ensures c.kept-2.ensures c.in_ok-stored.ensures.places counted c.in_ok-stored.ensures.bounded c.degree_of-degree.ensures.held
    small)

-- how the answer is shown
shown : (c : goal.After-keep) → c.keep.result ≡ monomial_of (length c.args.a.now.exponents) c.degree_of-degree.result c.in_ok-stored.stored
shown c =
    c.keep.ensures
    ∙ ap (λ k. monomial_of k c.degree_of-degree.result c.in_ok-stored.stored)
    (c.in_ok-stored.ensures.variables ∙ c.variables-n.ensures)

pub returns-clause-maxima : goal.returns-clause-maxima
returns-clause-maxima c =
    subst (λ (m : Monomial). IsPlaceByPlace max c.args.a.now.exponents c.args.b.now.exponents m.exponents) (sym (shown c))
    (places_shown max c.args.a.now c.args.b.now c.kept.result.now c.kept-2.result.now c.in_ok-stored.stored
    c.requires.variables c.kept.ensures c.kept-2.ensures c.in_ok-stored.ensures.places)

pub returns-clause-ok : goal.returns-clause-ok
returns-clause-ok c = maxima_monomial c.args.a.now.exponents c.args.b.now.exponents _ c.requires.variables (returns-clause-maxima c)

pub returns-clause-weighed : goal.returns-clause-weighed
returns-clause-weighed c =
    let n = length c.args.a.now.exponents in
    let u = c.in_ok-stored.stored in
    subst (λ (m : Monomial). IsWeighed n c.args.weights.now m) (sym (shown c))
    (record {
      variables = ap (λ (m : Monomial). length m.exponents) (sym (shown c)) ∙ (returns-clause-ok c).variables;
      degree = c.degree_of-degree.ensures.value ∙ ap (λ k. weighted_degree c.args.weights.now (exponents_of k (take k (places_of u)))) c.variables-n.ensures;
    })
