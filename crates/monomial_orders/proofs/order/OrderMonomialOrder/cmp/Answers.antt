use Rattle.std.proofs.Common.{ap, ap₂, length, refl, sym, ◌∙◌}
use Rattle.std.specs.Cmp.Lexicographic.{slice_cmp}
use Rattle.std.specs.Ordering.{nat_cmp}
use Rattle.monomials.specs.Exponents.{exponents_of}
use Rattle.orders.specs.MonomialOrders.{first_variables}
use Rattle.orders.specs.WeightedOrders.{weighted_grevlex}
use Rattle.monomial_orders.specs.Comparisons.{comparison}
use Rattle.monomial_orders.proofs.Comparing.{elimination_first, elimination_then, lex-slice}
use Rattle.monomial_orders.proofs.order.OrderMonomialOrder.cmp.Goals as goal

pub returns-in-Lex : goal.returns-in-Lex
returns-in-Lex c =
    let xs = c.args.a.now.exponents in
    let ys = c.args.b.now.exponents in
    let n = length xs in
    c.cmp.ensures ∙ ap₂ (slice_cmp nat_cmp) c.exponents.ensures.value c.exponents-in-Lex.ensures.value
    ∙ lex-slice n xs ys refl (sym c.requires.variables)
    ∙ ap (λ o. comparison o c.args.weights.now n (exponents_of n xs) (exponents_of n ys)) (sym c.in-Lex.is)

pub returns-in-Grevlex : goal.returns-in-Grevlex
returns-in-Grevlex c =
    let xs = c.args.a.now.exponents in
    let ys = c.args.b.now.exponents in
    let n = length xs in
    c.compare_graded.ensures c.args.weights.now c.requires.left c.requires.right
    ∙ ap (λ o. comparison o c.args.weights.now n (exponents_of n xs) (exponents_of n ys)) (sym c.in-Grevlex.is)

pub returns-in-Equal : goal.returns-in-Equal
returns-in-Equal c =
    let ws = c.args.weights.now in
    let xs = c.args.a.now.exponents in
    let ys = c.args.b.now.exponents in
    let n = length xs in
    elimination_then ws c.in-Elim.k (exponents_of n xs) (exponents_of n ys) c.compare_graded-in-Equal.result
    (c.in-Equal.ensures
    ∙ ap (λ us. weighted_grevlex us (first_variables c.in-Elim.k (exponents_of n xs)) (first_variables c.in-Elim.k (exponents_of n ys))) c.as_slice.ensures.value)
    (c.compare_graded-in-Equal.ensures ws c.requires.left c.requires.right)
    ∙ ap (λ o. comparison o ws n (exponents_of n xs) (exponents_of n ys)) (sym c.in-Elim.is)

pub returns-in_default : goal.returns-in_default
returns-in_default c =
    let ws = c.args.weights.now in
    let xs = c.args.a.now.exponents in
    let ys = c.args.b.now.exponents in
    let n = length xs in
    elimination_first ws c.in-Elim.k (exponents_of n xs) (exponents_of n ys) c.compare_first.result
    (c.compare_first.ensures
    ∙ ap (λ us. weighted_grevlex us (first_variables c.in-Elim.k (exponents_of n xs)) (first_variables c.in-Elim.k (exponents_of n ys))) c.as_slice.ensures.value)
    c.in_default.not-Equal
    ∙ ap (λ o. comparison o ws n (exponents_of n xs) (exponents_of n ys)) (sym c.in-Elim.is)
