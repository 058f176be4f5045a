use Rattle.std.proofs.Common.{ap, arith, get_or, length, max, subst, sym, ◌<◌, ◌∙◌, ◌≡◌}
use Rattle.monomial_orders.proofs.Filling.{kept_at, kept_of_one, one_shown}
use Rattle.monomial_orders.proofs.Over.{over_variable}
use Rattle.monomial_orders.specs.Kept.{Monomial}
use Rattle.monomial_orders.specs.Monomials.{IsMonomial, variable}
use Rattle.monomial_orders.specs.Storage.{monomial_of}
use Rattle.monomial_orders.proofs.mono.Mono.variable.Goals as goal

pub keep-requires : goal.keep-requires
keep-requires c =
    let s = c.in_ok-stored.stored in
    let d = c.from.result in
    let pos : 0 < get_or c.args.weights.now c.args.i 0 = c.as_slice.ensures.positive c.args.i c.requires in
    let w : d ≡ get_or c.args.weights.now c.args.i 0 = c.from.ensures ∙ ap (λ us. get_or us c.args.i 0) c.as_slice.ensures.value in
    let small : d < 4294967296 = omega arith in
    kept_at c.len.result d s c.in_ok-stored.ensures.variables
    (kept_of_one c.len.result c.args.i d s c.in_ok-stored.ensures.variables c.in_ok-stored.ensures.long small
    (omega (arith, c.len.ensures, c.requires)) (omega (arith, w, pos)) c.in_ok-stored.ensures.one c.in_ok-stored.ensures.others)

-- how the answer is shown
shown : (c : goal.After-keep) → c.keep.result ≡ monomial_of (length c.args.weights.now) c.from.result c.in_ok-stored.stored
shown c =
    c.keep.ensures
    ∙ ap (λ k. monomial_of k c.from.result c.in_ok-stored.stored)
    (c.in_ok-stored.ensures.variables ∙ c.len.ensures)

-- its exponents
exponents_are : (c : goal.After-keep) → IsMonomial (length c.args.weights.now) (variable (length c.args.weights.now) c.args.i) c.keep.result.exponents
exponents_are c =
    let n = length c.args.weights.now in
    subst (λ (m : Monomial). IsMonomial n (variable n c.args.i) m.exponents) (sym (shown c))
    (one_shown n c.args.i c.in_ok-stored.stored c.requires (c.in_ok-stored.ensures.long ∙ ap (λ k. max 16 k) c.len.ensures)
    c.in_ok-stored.ensures.one c.in_ok-stored.ensures.others)

-- its degree
degree_is : (c : goal.After-keep) → c.keep.result.degree ≡ get_or c.args.weights.now c.args.i 0
degree_is c = ap (λ (m : Monomial). m.degree) (shown c) ∙ c.from.ensures ∙ ap (λ us. get_or us c.args.i 0) c.as_slice.ensures.value

pub returns-clause-ok : goal.returns-clause-ok
returns-clause-ok c = exponents_are c

pub returns-clause-weighed : goal.returns-clause-weighed
returns-clause-weighed c =
    let ws = c.args.weights.now in
    over_variable (length ws) ws c.keep.result.exponents c.args.i c.keep.result.degree (exponents_are c) c.requires c.requires
    (c.as_slice.ensures.positive c.args.i c.requires) (degree_is c)

pub returns-clause-degree : goal.returns-clause-degree
returns-clause-degree c = degree_is c
