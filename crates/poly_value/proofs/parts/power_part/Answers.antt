use Rattle.std.proofs.Common.{◌<◌, subst, sym}
use Rattle.term_lists.specs.Rings.{variables}
use Rattle.sparse_poly.specs.Powers.{polynomial_power}
use Rattle.poly_value.specs.Parts.{IsOperandPart}
use Rattle.poly_value.proofs.Sums.{normal_within, power_stands, vector_part}
use Rattle.poly_value.proofs.parts.power_part.Goals as goal

pub returns-in-Ok : goal.returns-in-Ok
returns-in-Ok g c = λ v hv.
    let ring = g.F.Frame.over c.args.frame.now in
    let pos : 1 < ring.modulus.value = subst (λ r. 1 < r.modulus.value) c.ring.ensures c.domain.ensures.above_one in
    subst (IsOperandPart ring (polynomial_power v c.args.n)) (sym c.into_terms.ensures)
    (vector_part ring (g.F.Frame.compare c.args.frame.now) c.in-Ok.v _ c.in-Ok.ensures.vector c.in-Ok.ensures.polynomial
    (power_stands ring c.in_ok-base.base c.args.base.items c.in-Ok.v v c.args.n pos hv.stands c.in_ok-base.ensures.same c.in-Ok.ensures.power))

pub no_memory-requires : goal.no_memory-requires
no_memory-requires g c =
    let ring = g.F.Frame.over c.args.frame.now in
    let order = g.met.F.Frame.laws c.args.frame.now (variables ring) 1 in
    let fits = c.requires.fits in
    let base = normal_within order ring.weights ring.modulus.value c.args.base.items c.in_ok-base.base fits.0 c.in_ok-base.ensures.vector c.in_ok-base.ensures.same fits.1 in
    let stop = c.in-Err.ensures.memory fits.0 base fits.2 in
    cc
