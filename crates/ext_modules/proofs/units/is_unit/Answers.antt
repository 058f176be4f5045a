use Rattle.std.proofs.Common.{ap, sym, ◌∙◌}
use Rattle.formal_sums.proofs.Sameness.{IsSame_of}
use Rattle.term_lists.proofs.NormalVectors.{vector_unique}
use Rattle.term_lists.specs.Rings.{ring_comparison, variables}
use Rattle.term_lists.specs.Vectors.{sum_of}
use Rattle.ext_modules.proofs.units.is_unit.Goals as goal

pub returns : goal.returns
returns c =
    let ring = c.args.ring.now in
    let n = variables ring in
    let v = c.args.v.now in
    let u = c.in_ok-unit.unit in (
      λ e. ap (λ x. sum_of n x) (c.equal.ensures.0 e) ∙ c.in_ok-unit.ensures.sum,
      λ s. c.equal.ensures.1
          (vector_unique ring (ring_comparison ring) 0 v u (c.lawful_setting.ensures 0) c.requires c.in_ok-unit.ensures.vector
          (IsSame_of ring.modulus.value _ _ (s ∙ sym c.in_ok-unit.ensures.sum))),
    )
