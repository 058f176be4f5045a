use Rattle.std.proofs.Common.{arith, subst}
use Rattle.std.proofs.lemmas.List.{take_all}
use Rattle.formal_sums.specs.FormalSums.{Each}
use Rattle.term_lists.proofs.Scaling.{Each_more}
use Rattle.minimal_betti.specs.Complementing.{IsApart}
use Rattle.minimal_betti.proofs.complementing.are_apart.Goals as goal

pub loop-v-preserved : goal.loop-v-preserved
loop-v-preserved c = λ rows told.
    Each_more (IsApart rows) c.args.vectors.now c.loop-v.v-index c.v-item.result (c.loop-v.invariant rows told) (omega arith) c.v-item.is
    (c.is_apart.ensures rows told c.if-not-is_apart.false)

pub returns : goal.returns
returns c = λ rows told _.
    subst (Each (IsApart rows)) (take_all c.loop-v.v-index c.args.vectors.now (omega arith)) (c.loop-v.invariant rows told)
