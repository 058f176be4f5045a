use Rattle.std.proofs.Common.{◌∙◌, ◌-◌, ◌<◌, ap, subst, sym}
use Rattle.monomials.specs.Exponents.{unit}
use Rattle.formal_sums.specs.FormalSums.{scale}
use Rattle.term_lists.specs.Multiples.{rescaled}
use Rattle.term_lists.specs.Rings.{variables}
use Rattle.poly_value.proofs.Sums.{rescaled_part}
use Rattle.poly_value.specs.Parts.{IsOperandPart}
use Rattle.poly_value.proofs.parts.oppose.Goals as goal

pub returns : goal.returns
returns g c = λ v h.
    let ring = g.F.Frame.over c.args.frame.now in
    let pos : 1 < ring.modulus.value = subst (λ r. 1 < r.modulus.value) c.ring.ensures c.domain.ensures.above_one in
    subst (IsOperandPart ring (scale (ring.modulus.value - 1) (unit (variables ring)) v))
    (sym (c.negate.ensures ∙ ap (λ r. rescaled r.modulus.value (r.modulus.value - 1) c.args.terms.now.items) c.ring.ensures))
    (rescaled_part ring (ring.modulus.value - 1) v c.args.terms.now.items pos h)
