use Rattle.std.proofs.Common.{◌<◌, ◌≡◌, subst, sym}
use Rattle.formal_sums.proofs.Sameness.{IsSame_refl}
use Rattle.formal_sums.specs.FormalSums.{product}
use Rattle.term_lists.specs.Rings.{variables}
use Rattle.term_lists.specs.Vectors.{StandsFor, sum_of}
use Rattle.poly_value.specs.Parts.{IsOperandPart}
use Rattle.poly_value.proofs.Sums.{normal_within, product_stands, vector_part}
use Rattle.poly_value.proofs.parts.product_part.Goals as goal

pub returns-in-Ok : goal.returns-in-Ok
returns-in-Ok g c = λ v w hv hw.
    let ring = g.F.Frame.over c.args.frame.now in
    let pos : 1 < ring.modulus.value = subst (λ r. 1 < r.modulus.value) c.ring.ensures c.domain.ensures.above_one in
    let kept : c.single_product.new.left.items ≡ c.args.left.items = c.single_product.ensures.kept c.if-single_product.false in
    let same = subst (λ terms. StandsFor ring c.in_ok-left.left (sum_of (variables ring) terms)) kept c.in_ok-left.ensures.same in
    subst (IsOperandPart ring (product v w)) (sym c.into_terms.ensures)
    (vector_part ring (g.F.Frame.compare c.args.frame.now) c.in-Ok.v _ c.in-Ok.ensures.vector c.in-Ok.ensures.polynomial
    (product_stands ring c.in_ok-left.left c.in_ok-right.right c.args.left.items c.args.right.items c.in-Ok.v v w pos hv.stands hw.stands same c.in_ok-right.ensures.same c.in-Ok.ensures.product))

pub no_memory-requires : goal.no_memory-requires
no_memory-requires g c =
    let ring = g.F.Frame.over c.args.frame.now in
    let order = g.met.F.Frame.laws c.args.frame.now (variables ring) 1 in
    let fits = c.requires.fits in
    let kept : c.single_product.new.left.items ≡ c.args.left.items = c.single_product.ensures.kept c.if-single_product.false in
    let same = subst (λ terms. StandsFor ring c.in_ok-left.left (sum_of (variables ring) terms)) kept c.in_ok-left.ensures.same in
    let left = normal_within order ring.weights ring.modulus.value c.args.left.items c.in_ok-left.left fits.0 c.in_ok-left.ensures.vector same fits.2 in
    let right = normal_within order ring.weights ring.modulus.value c.args.right.items c.in_ok-right.right fits.1 c.in_ok-right.ensures.vector c.in_ok-right.ensures.same fits.3 in
    let stop = c.in-Err.ensures.memory fits.0 fits.1 left right fits.4 in
    cc

pub returns-then-single_product : goal.returns-then-single_product
returns-then-single_product g c = λ v w hv hw.
    let ring = g.F.Frame.over c.args.frame.now in
    let n = variables ring in
    let p = ring.modulus.value in
    let left = c.args.left.items in
    let right = c.args.right.items in
    let pos : 1 < ring.modulus.value = subst (λ r. 1 < r.modulus.value) c.ring.ensures c.domain.ensures.above_one in
    let new = c.single_product.new.left.items in
    let made = subst (λ terms. StandsFor ring new (product (sum_of n left) (sum_of n terms))) c.deref.ensures.value (c.single_product.ensures.product c.if-single_product.true) in
    record {
      sum = c.single_product.ensures.sum c.if-single_product.true;
      stands = product_stands ring left right left right new v w pos hv.stands hw.stands (IsSame_refl p (sum_of n left)) (IsSame_refl p (sum_of n right)) made;
    }
