use Rattle.std.proofs.Common.{arith, refl}
use Rattle.pair_updates.proofs.CriterionTests.{not_true}
use Rattle.pair_updates.proofs.PassedPairs.{none_more, passed}
use Rattle.pair_updates.proofs.yielding.first_read.Goals as goal

pub returns-then-k-above : goal.returns-then-k-above
returns-then-k-above c =
    let m = c.args.leads.now in
    let x = c.args.pair.now in
    let members = c.args.members.now in
    let none =
    passed m x members c.args.from c.args.above.now c.loop-k.k c.next_within-k.result c.requires.pair (omega arith) c.requires.active
    c.next_within-k.ensures.bound c.next_within-k.ensures.before c.loop-k.invariant.none in
    λ z late lt. none z late (omega (arith, lt, c.if-k-above.true, c.requires.active.len))

pub returns-then-yields_to : goal.returns-then-yields_to
returns-then-yields_to c = record {
  stands = record {
    at = c.next_within-k.result;
    late = omega arith;
    within = omega (arith, c.next_within-k.ensures.bound, c.if-k-above.false, c.requires.active.len);
    is = refl;
  };
  yields = c.yields_to.ensures.0 c.if-yields_to.true;
  before = passed c.args.leads.now c.args.pair.now c.args.members.now c.args.from c.args.above.now c.loop-k.k c.next_within-k.result
      c.requires.pair (omega arith) c.requires.active c.next_within-k.ensures.bound c.next_within-k.ensures.before c.loop-k.invariant.none;
}

pub loop-k-preserved : goal.loop-k-preserved
loop-k-preserved c = record {
  late = omega arith;
  none = none_more c.args.leads.now c.args.pair.now c.args.members.now c.args.from c.next_within-k.result
      (passed c.args.leads.now c.args.pair.now c.args.members.now c.args.from c.args.above.now c.loop-k.k c.next_within-k.result
      c.requires.pair (omega arith) c.requires.active c.next_within-k.ensures.bound c.next_within-k.ensures.before c.loop-k.invariant.none)
      (λ y. not_true c.yields_to.result c.if-yields_to.false (c.yields_to.ensures.1 y));
}
