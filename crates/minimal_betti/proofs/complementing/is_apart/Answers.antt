use Rattle.std.proofs.Common.{arith}
use Rattle.minimal_betti.proofs.Gone.{apart_more}
use Rattle.minimal_betti.proofs.complementing.is_apart.Goals as goal

pub loop-term-preserved : goal.loop-term-preserved
loop-term-preserved c = λ rows told.
    apart_more rows c.args.leaving.now c.terms-term-items.result.now c.loop-term.term-index c.term-item.result told (omega arith) c.term-item.is
    (c.leaves.ensures.no c.if-leaves.false) (c.loop-term.invariant rows told)
