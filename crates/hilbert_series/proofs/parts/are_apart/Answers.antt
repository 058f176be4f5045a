use Rattle.std.proofs.Common.{length, refl}
use Rattle.hilbert_series.proofs.Sieves.{apart_so_far}
use Rattle.hilbert_series.proofs.parts.are_apart.Goals as goal

pub loop-m-preserved : goal.loop-m-preserved
loop-m-preserved c =
    apart_so_far (length c.args.weights.now) c.args.first.now c.args.other.now c.loop-m.m-index c.m-item.result c.loop-m-test.true c.m-item.is
    (c.if-not-is_apart.ensures refl) c.loop-m.invariant

pub is_apart-requires-clause-generators : goal.is_apart-requires-clause-generators
is_apart-requires-clause-generators c = c.requires.first
