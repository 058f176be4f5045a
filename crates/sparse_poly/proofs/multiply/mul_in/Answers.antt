use Rattle.std.proofs.Common.{◌+◌, ◌≡◌}
use Rattle.term_lists.specs.Rings.{variables}
use Rattle.term_lists.specs.Vectors.{HasPositions}
use Rattle.term_lists.specs.declared.stop.VectStop.TheVariants.{Memory}
use Rattle.sparse_poly.proofs.Multiplying.{ProductFits_exchanged, PolynomialProductStops_exchanged}
use Rattle.sparse_poly.proofs.Products.{PolynomialProductStops_memory, product_exchanged, product_positions, product_within}
use Rattle.sparse_poly.proofs.Results.{both_ok, one_err}
use Rattle.sparse_poly.specs.Degrees.{IsWithinDegree}
use Rattle.sparse_poly.proofs.multiply.mul_in.Goals as goal

pub returns-then-terms-clause-polynomial : goal.returns-then-terms-clause-polynomial
returns-then-terms-clause-polynomial g c =
    let ring = g.F.Frame.over c.args.frame.now in
    both_ok _ _ (λ v. HasPositions 1 v) c.mul_terms.result
    (product_positions (g.met.F.Frame.laws c.args.frame.now (variables ring) 1) ring.weights ring.modulus.value c.args.a.now c.args.b.now c.requires.right_polynomial)
    c.mul_terms.ensures.vector c.mul_terms.ensures.product

pub returns-then-terms-clause-within : goal.returns-then-terms-clause-within
returns-then-terms-clause-within g c d e ha hb =
    let ring = g.F.Frame.over c.args.frame.now in
    both_ok _ _ (IsWithinDegree (d + e)) c.mul_terms.result
    (product_within (g.met.F.Frame.laws c.args.frame.now (variables ring) 1) ring.weights ring.modulus.value c.args.a.now c.args.b.now c.requires.left c.requires.right d e ha hb)
    c.mul_terms.ensures.vector c.mul_terms.ensures.product

pub returns-in-Ok-clause-polynomial : goal.returns-in-Ok-clause-polynomial
returns-in-Ok-clause-polynomial g c =
    let ring = g.F.Frame.over c.args.frame.now in
    product_positions (g.met.F.Frame.laws c.args.frame.now (variables ring) 1) ring.weights ring.modulus.value c.args.b.now c.args.a.now c.requires.left_polynomial
    c.in-Ok.v c.in-Ok.ensures.vector c.in-Ok.ensures.product

pub returns-in-Ok-clause-product : goal.returns-in-Ok-clause-product
returns-in-Ok-clause-product g c =
    let ring = g.F.Frame.over c.args.frame.now in
    product_exchanged (g.met.F.Frame.laws c.args.frame.now (variables ring) 1) ring.weights ring.modulus.value c.args.a.now c.args.b.now c.requires.left_polynomial c.requires.right_polynomial
    c.in-Ok.v c.in-Ok.ensures.product

pub returns-in-Ok-clause-fits : goal.returns-in-Ok-clause-fits
returns-in-Ok-clause-fits g c = ProductFits_exchanged c.args.b.now c.args.a.now c.in-Ok.ensures.fits

pub returns-in-Ok-clause-within : goal.returns-in-Ok-clause-within
returns-in-Ok-clause-within g c d e ha hb =
    let ring = g.F.Frame.over c.args.frame.now in
    product_within (g.met.F.Frame.laws c.args.frame.now (variables ring) 1) ring.weights ring.modulus.value c.args.a.now c.args.b.now c.requires.left c.requires.right d e ha hb
    c.in-Ok.v c.in-Ok.ensures.vector
    (product_exchanged (g.met.F.Frame.laws c.args.frame.now (variables ring) 1) ring.weights ring.modulus.value c.args.a.now c.args.b.now c.requires.left_polynomial c.requires.right_polynomial c.in-Ok.v c.in-Ok.ensures.product)

pub returns-then-terms-clause-memory : goal.returns-then-terms-clause-memory
returns-then-terms-clause-memory g c d e ha hb small =
    one_err _ c.mul_terms.result Memory (PolynomialProductStops_memory c.args.a.now c.args.b.now d e ha hb small) c.mul_terms.ensures.stop

pub returns-in-Err-clause-stop : goal.returns-in-Err-clause-stop
returns-in-Err-clause-stop g c = rw c.exchange.ensures (PolynomialProductStops_exchanged c.args.b.now c.args.a.now c.in-Err.stop c.in-Err.ensures.stop)

pub returns-in-Err-clause-memory : goal.returns-in-Err-clause-memory
returns-in-Err-clause-memory g c d e ha hb small =
    let none : c.exchange.result ≡ Memory = PolynomialProductStops_memory c.args.a.now c.args.b.now d e ha hb small c.exchange.result (returns-in-Err-clause-stop g c) in
    cc
