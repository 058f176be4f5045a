use Rattle.std.proofs.Common.{ap, subst, ◌∙◌}
use Rattle.formal_sums.specs.FormalSums.{product}
use Rattle.term_lists.specs.Rings.{variables}
use Rattle.term_lists.specs.Vectors.{IsVectorOver, StandsFor, sum_of}
use Rattle.module_vectors.specs.Products.{sum_of_product_list}
use Rattle.module_vectors.specs.ProductStops.{ProductsFit, ProductsStop}
use Rattle.sparse_poly.proofs.Multiplying.{multiples_factors, multiples_fit, multiples_stop, multiples_sum, multiples_vectors}
use Rattle.sparse_poly.proofs.Results.{each_err, each_ok}
use Rattle.sparse_poly.specs.Stops.{ProductFits, PolynomialProductStops}
use Rattle.sparse_poly.proofs.multiply.mul_terms.Goals as goal

pub sum_of_products_in-requires-clause-factors : goal.sum_of_products_in-requires-clause-factors
sum_of_products_in-requires-clause-factors g c =
    let ring = g.F.Frame.over c.args.frame.now in
    rw c.deref.ensures.value (multiples_factors (variables ring) ring.weights ring.modulus.value c.args.b.now c.terms.result.now c.in-Ok.products.items c.in-Ok.ensures (rw c.terms.ensures c.requires.left.each))

pub sum_of_products_in-requires-clause-vectors : goal.sum_of_products_in-requires-clause-vectors
sum_of_products_in-requires-clause-vectors g c =
    rw c.deref.ensures.value (multiples_vectors (IsVectorOver (g.F.Frame.over c.args.frame.now) (g.F.Frame.compare c.args.frame.now)) c.args.b.now c.terms.result.now c.in-Ok.products.items c.in-Ok.ensures c.requires.right)

pub returns-in-Ok-clause-product : goal.returns-in-Ok-clause-product
returns-in-Ok-clause-product g c =
    let ring = g.F.Frame.over c.args.frame.now in
    let n = variables ring in
    let sums = multiples_sum n c.args.b.now c.terms.result.now c.in-Ok.products.items c.in-Ok.ensures in
    each_ok _ (λ v. StandsFor ring v (product (sum_of n c.args.a.now) (sum_of n c.args.b.now))) c.sum_of_products_in.result
    (λ v h. subst (λ w. StandsFor ring v w) (ap (sum_of_product_list n) c.deref.ensures.value ∙ sums ∙ ap (λ a. product (sum_of n a) (sum_of n c.args.b.now)) c.terms.ensures) h)
    c.sum_of_products_in.ensures.sum

pub returns-in-Ok-clause-fits : goal.returns-in-Ok-clause-fits
returns-in-Ok-clause-fits g c =
    let ring = g.F.Frame.over c.args.frame.now in
    each_ok _ (λ v. ProductFits c.args.a.now c.args.b.now) c.sum_of_products_in.result
    (λ v h. subst (λ a. ProductFits a c.args.b.now) c.terms.ensures (multiples_fit (variables ring) ring.weights ring.modulus.value c.args.b.now c.terms.result.now c.in-Ok.products.items c.in-Ok.ensures (rw c.terms.ensures c.requires.left.each) (subst ProductsFit c.deref.ensures.value h)))
    c.sum_of_products_in.ensures.fits

pub returns-in-Ok-clause-stop : goal.returns-in-Ok-clause-stop
returns-in-Ok-clause-stop g c =
    each_err _ (PolynomialProductStops c.args.a.now c.args.b.now) c.sum_of_products_in.result
    (λ s h. subst (λ a. PolynomialProductStops a c.args.b.now s) c.terms.ensures (multiples_stop c.args.b.now c.terms.result.now c.in-Ok.products.items s c.in-Ok.ensures (subst (λ xs. ProductsStop xs s) c.deref.ensures.value h)))
    c.sum_of_products_in.ensures.stop
