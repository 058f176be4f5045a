use Rattle.std.proofs.Common.{arith}
use Rattle.std.proofs.lemmas.Int.{ints, to_z-of_z}
use Rattle.hilbert_series.proofs.Division.{summing_more}
use Rattle.hilbert_series.proofs.dimension.running_sums.Goals as goal

pub loop-d-preserved : goal.loop-d-preserved
loop-d-preserved c =
    let s = c.in-Some.ensures.some in
    let a = s.0 in
    let b = s.1 in
    summing_more c.args.list.now c.loop-d.sums.items c.push.new.self.items _ c.in-Some.next _ _ c.loop-d.d c.loop-d.invariant c.in_ok-push.ensures.items
    (search (arith, ints, to_z-of_z)) (search (arith, ints, to_z-of_z)) (search (arith, ints, to_z-of_z)) b
