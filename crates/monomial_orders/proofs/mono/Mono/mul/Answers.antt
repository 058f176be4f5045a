use Rattle.std.proofs.Common.{ap, arith, length, refl, subst, sym, take, ◌+◌, ◌<◌, ◌∙◌, ◌≡◌, ◌≤◌}
use Rattle.monomials.specs.Exponents.{exponents_of, times}
use Rattle.monomial_orders.proofs.Filling.{filled_at, kept_at, kept_by, places_shown}
use Rattle.monomial_orders.proofs.Over.{over_times, sums_held}
use Rattle.monomial_orders.proofs.PlaceByPlace.{sums_monomial}
use Rattle.monomial_orders.specs.Kept.{Monomial}
use Rattle.monomial_orders.specs.Monomials.{IsMonomial, IsPlaceByPlace}
use Rattle.monomial_orders.specs.Storage.{IsFilled, monomial_of, places_of, stored_variables}
use Rattle.monomial_orders.proofs.mono.Mono.mul.Goals as goal

pub sums-requires-clause-left : goal.sums-requires-clause-left
sums-requires-clause-left c = subst (λ n. IsFilled n c.kept.result.now) (sym c.variables.ensures) c.kept.ensures.kept.filled

pub sums-requires-clause-right : goal.sums-requires-clause-right
sums-requires-clause-right c =
    subst (λ n. IsFilled n c.kept-2.result.now) (sym c.variables.ensures)
    (filled_at c.args.a.now c.args.b.now c.kept-2.result.now c.requires.variables c.kept-2.ensures)

pub sums-requires-clause-room : goal.sums-requires-clause-room
sums-requires-clause-room c = λ k.
    let small : c.args.a.now.degree + c.args.b.now.degree ≤ 65535 = omega arith in
    omega (arith, c.kept.ensures.kept.held k, c.kept-2.ensures.kept.held k, small)

pub keep-requires : goal.keep-requires
keep-requires c =
    let a = c.args.a.now in
    let b = c.args.b.now in
    let s = c.kept.result.now in
    let t = c.kept-2.result.now in
    let u = c.in_ok-stored.stored in
    let total = c.saturating_add-degree.result in
    let d : total ≡ a.degree + b.degree = omega arith in
    let small : total < 4294967296 = omega arith in
    let held =
    sums_held (places_of s) (places_of t) (places_of u) a.degree b.degree c.in_ok-stored.ensures.places
    c.kept.ensures.kept.held c.kept-2.ensures.kept.held in
    let counted = subst (λ n. stored_variables u ≡ n) c.variables.ensures c.in_ok-stored.ensures.variables in
    kept_at (length a.exponents) total u counted
    (kept_by ◌+◌ a b s t u total refl c.requires.variables c.kept.ensures c.kept-2.ensures c.in_ok-stored.ensures.places counted
    c.in_ok-stored.ensures.bounded (λ k. omega (arith, held k, d)) small)

-- how the answer is shown, and its exponents place by place
record Shown (c : goal.After-keep) : Type 0 where
  is : c.keep.result ≡ monomial_of (length c.args.a.now.exponents) c.saturating_add-degree.result c.in_ok-stored.stored
  places : IsPlaceByPlace ◌+◌ c.args.a.now.exponents c.args.b.now.exponents (take (length c.args.a.now.exponents) (places_of c.in_ok-stored.stored))

shown : (c : goal.After-keep) → Shown c
shown c = record {
  is =
      c.keep.ensures
      ∙ ap (λ k. monomial_of k c.saturating_add-degree.result c.in_ok-stored.stored)
      (c.in_ok-stored.ensures.variables ∙ c.variables.ensures);
  places = places_shown ◌+◌ c.args.a.now c.args.b.now c.kept.result.now c.kept-2.result.now c.in_ok-stored.stored
      c.requires.variables c.kept.ensures c.kept-2.ensures c.in_ok-stored.ensures.places;
}

pub returns-clause-ok : goal.returns-clause-ok
returns-clause-ok c =
    let xs = c.args.a.now.exponents in
    let ys = c.args.b.now.exponents in
    let n = length xs in
    subst (λ (m : Monomial). IsMonomial n (times (exponents_of n xs) (exponents_of n ys)) m.exponents) (sym (shown c).is)
    (sums_monomial xs ys _ c.requires.variables (shown c).places)

pub returns-clause-sums : goal.returns-clause-sums
returns-clause-sums c =
    subst (λ (m : Monomial). IsPlaceByPlace ◌+◌ c.args.a.now.exponents c.args.b.now.exponents m.exponents) (sym (shown c).is) (shown c).places

degree_is : (c : goal.After-keep) → c.keep.result.degree ≡ c.args.a.now.degree + c.args.b.now.degree
degree_is c =
    let d : c.saturating_add-degree.result ≡ c.args.a.now.degree + c.args.b.now.degree = omega arith in
    ap (λ (m : Monomial). m.degree) (shown c).is ∙ d

pub returns-clause-degree : goal.returns-clause-degree
returns-clause-degree c = degree_is c

pub returns-clause-weighed : goal.returns-clause-weighed
returns-clause-weighed c = λ ws h k.
    over_times (length c.args.a.now.exponents) ws c.args.a.now c.args.b.now c.keep.result (returns-clause-ok c) (degree_is c) h k
