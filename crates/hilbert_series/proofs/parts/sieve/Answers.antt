use Rattle.std.proofs.Common.{length}
use Rattle.hilbert_series.proofs.Sieves.{sieving_begins, sieving_more}
use Rattle.hilbert_series.proofs.parts.sieve.Goals as goal

pub loop-m-init : goal.loop-m-init
loop-m-init c =
    sieving_begins (length c.args.weights.now) c.args.weights.now c.args.list.now c.args.first.now.items c.args.other.now.items c.requires.first c.requires.other

pub loop-m-preserved : goal.loop-m-preserved
loop-m-preserved c =
    sieving_more (length c.args.weights.now) c.args.weights.now c.args.list.now c.loop-m.first.items c.loop-m.other.items
    c.push_either.new.first.items c.push_either.new.other.items c.loop-m.m-index c.m-item.result c.meets-is_first.result
    c.loop-m-test.true c.m-item.is c.requires.generators c.in-Ok.ensures.first c.in-Ok.ensures.other c.loop-m.invariant
