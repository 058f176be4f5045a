use Rattle.std.proofs.Common.{ap, refl, subst, ◌%◌, ◌*◌, ◌∙◌}
use Rattle.monomials.specs.Exponents.{exponents_of, times}
use Rattle.monomial_orders.specs.Monomials.{IsMonomial}
use Rattle.term_lists.specs.declared.key.Key.{Key}
use Rattle.poly_value.proofs.TermProducts.{term_stands}
use Rattle.poly_value.proofs.parts.term_product.Goals as goal

pub returns-in-Ok-clause-product : goal.returns-in-Ok-clause-product
returns-in-Ok-clause-product g c =
    let ring = g.F.Frame.over c.args.frame.now in
    let left = c.args.left.now in
    let right = c.args.right.now in
    let m = c.in-Ok.monomial in
    let key : Key = record { position = 0; monomial = m } in
    let whole = subst (λ j. IsMonomial j (times (exponents_of j left.0.monomial.exponents) (exponents_of j right.0.monomial.exponents)) m.exponents)
    c.requires.left.over.0.0.variables c.in-Ok.ensures.ok in
    term_stands ring left right (key, c.mul-in-Ok.result) c.requires.right.positions.0 refl whole.exponents
    (c.mul-in-Ok.ensures.value ∙ ap (λ r. (left.1 * right.1) % r.modulus.value) c.ring.ensures)
