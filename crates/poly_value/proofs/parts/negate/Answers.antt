use Rattle.std.proofs.Common.{ap, arith, ◌-◌, ◌*◌, ◌%◌, ◌∙◌}
use Rattle.term_lists.proofs.Rescaling.{rescale_step}
use Rattle.poly_value.proofs.parts.negate.Goals as goal

pub loop-i-preserved : goal.loop-i-preserved
loop-i-preserved c =
    let p = c.args.modulus.now.value in
    rescale_step p (p - 1) c.args.terms.now.items c.loop-i.terms.items c.loop-i.i c.mul-residue.result c.index.result.now c.index_mut.result.now
    (omega arith) c.loop-i.invariant c.index.ensures c.index_mut.ensures.value
    (c.mul-residue.ensures.value ∙ ap (λ m. ((m - 1) * c.index.result.now.1) % p) c.value-minus_one.ensures)
