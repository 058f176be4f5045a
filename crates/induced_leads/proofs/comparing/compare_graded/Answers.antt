use Rattle.std.proofs.Common.{ap, ap₂, length, ◌∙◌}
use Rattle.monomials.specs.Exponents.{exponents_of}
use Rattle.orders.specs.MonomialOrders.{reverse_lex}
use Rattle.monomial_orders.proofs.Comparing.{grevlex_degree, grevlex_tie}
use Rattle.term_lists.specs.Rings.{variables}
use Rattle.induced_leads.specs.Heads.{summed}
use Rattle.induced_leads.proofs.comparing.compare_graded.Goals as goal

pub returns-in-Equal : goal.returns-in-Equal
returns-in-Equal c =
    let ring = c.args.ring.now in
    let n = variables ring in
    let us = c.args.a.now.exponents in
    let xs = summed us c.args.e.now.exponents.items in
    let ys = summed c.args.b.now.exponents c.args.f.now.exponents.items in
    let vs = c.exponents-in-Equal.result.now in
    let fs = c.deref-in-Equal.result.now in
    grevlex_tie ring.weights (exponents_of n xs) (exponents_of n ys) _ _ _ c.product_degree.ensures c.product_degree-2.ensures c.in-Equal.ensures
    (c.compare_last.ensures
    ∙ ap₂ (λ us es. reverse_lex (exponents_of (length us) (summed us es)) (exponents_of (length us) (summed vs fs))) c.exponents.ensures.value c.deref.ensures.value
    ∙ ap₂ (λ vs fs. reverse_lex (exponents_of (length us) xs) (exponents_of (length us) (summed vs fs))) c.exponents-in-Equal.ensures.value c.deref-in-Equal.ensures.value
    ∙ ap (λ n. reverse_lex (exponents_of n xs) (exponents_of n ys)) c.requires.left.variables)

pub returns-in_default : goal.returns-in_default
returns-in_default c =
    let ring = c.args.ring.now in
    let n = variables ring in
    let xs = summed c.args.a.now.exponents c.args.e.now.exponents.items in
    let ys = summed c.args.b.now.exponents c.args.f.now.exponents.items in
    grevlex_degree ring.weights (exponents_of n xs) (exponents_of n ys) _ _ _ c.product_degree.ensures c.product_degree-2.ensures
    c.cmp.ensures c.in_default.not-Equal
