use Rattle.std.proofs.Common.{length, ◌∙◌}
use Rattle.monomials.specs.Exponents.{exponents_of}
use Rattle.monomial_orders.proofs.Comparing.{grevlex_degree, grevlex_tie}
use Rattle.monomial_orders.proofs.compare.compare_graded.Goals as goal

pub returns-in-Equal : goal.returns-in-Equal
returns-in-Equal c = λ ws h k.
    let xs = c.args.a.now.exponents in
    let ys = c.args.b.now.exponents in
    let n = length xs in
    grevlex_tie ws (exponents_of n xs) (exponents_of n ys) _ _ _
    (c.degree.ensures.value ∙ h.degree) (c.degree-2.ensures.value ∙ k.degree) c.in-Equal.ensures c.compare_last.ensures

pub returns-in_default : goal.returns-in_default
returns-in_default c = λ ws h k.
    let xs = c.args.a.now.exponents in
    let ys = c.args.b.now.exponents in
    let n = length xs in
    grevlex_degree ws (exponents_of n xs) (exponents_of n ys) _ _ _
    (c.degree.ensures.value ∙ h.degree) (c.degree-2.ensures.value ∙ k.degree) c.cmp.ensures c.in_default.not-Equal
