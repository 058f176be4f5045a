use Rattle.std.proofs.Common.{arith, ◌≡◌}
use Rattle.pair_updates.proofs.CopiedPairs.{new_next}
use Rattle.pair_updates.proofs.meeting.pairs_with.Goals as goal

pub loop-i-preserved : goal.loop-i-preserved
loop-i-preserved c = record {
  len = omega (arith, c.push_reserved.ensures.len, c.loop-i.invariant.len);
  each = new_next c.args.leads.now c.args.h c.loop-i.i c.loop-i.pairs.items c.push_reserved.new.self.items c.new_pair.result c.loop-i.invariant.len
      c.push_reserved.ensures.items c.loop-i.invariant.each c.new_pair.ensures;
  room = omega (arith, c.loop-i.invariant.room, c.push_reserved.ensures.capacity);
  few = omega (arith, c.loop-i-test.true);
}

pub returns : goal.returns
returns c =
    let end : c.loop-i.i ≡ c.args.h = omega (arith, c.loop-i-test.false, c.loop-i.invariant.few) in
    record { len = omega (arith, c.loop-i.invariant.len, end); each = λ k l. c.loop-i.invariant.each k (omega (arith, l, end)) }
