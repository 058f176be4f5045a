use Rattle.std.proofs.Common.{ap, arith, length, map, take_all, ◌*◌, ◌<◌, ◌∙◌}
use Rattle.sparse_poly.proofs.TermPowers.{multiplied_next}
use Rattle.sparse_poly.proofs.term_powers.multiplied.Goals as goal

pub loop-i-init : goal.loop-i-init
loop-i-init c = c.in_ok-raised.ensures.items

pub loop-i-preserved : goal.loop-i-preserved
loop-i-preserved c =
    let lt : c.loop-i.i < length c.args.m.now.exponents = omega arith in
    c.in_ok-push.ensures.items ∙ multiplied_next c.args.k c.args.m.now.exponents c.loop-i.raised.items c.loop-i.i c.multiple.result lt c.multiple.ensures c.loop-i.invariant

pub returns : goal.returns
returns c = c.loop-i.invariant ∙ ap (map (λ e. c.args.k * e)) (take_all c.loop-i.i c.args.m.now.exponents (omega arith))
