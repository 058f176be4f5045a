use Rattle.std.proofs.Common.{arith, sym, take}
use Rattle.term_lists.proofs.Scaling.{Each_at, Each_more}
use Rattle.term_lists.specs.Rings.{variables}
use Rattle.symbolic_prep.proofs.Closing.{both_tops, later_itself, later_trans, pair_divides, pairs_more}
use Rattle.symbolic_prep.proofs.Tracing.{pair_position}
use Rattle.symbolic_prep.specs.Plans.{HasPairProducts, IsMemberPair}
use Rattle.symbolic_prep.proofs.pairs.add_pairs.Goals as goal

pub loop-i-init : goal.loop-i-init
loop-i-init g c = record {
  later = later_itself (variables c.args.ring.now) c.args.ring.now.weights (g.L.Vectors.listed c.args.members.now) c.args.plan.now.keys c.args.plan.now.rows.items c.args.plan.now.products.items c.args.plan.now.led.items c.requires.plan;
  pairs = tt;
  traced = c.requires.traced;
  hashed = c.requires.hashed;
  count = omega arith;
}

pub add_top-requires-clause-divides : goal.add_top-requires-clause-divides
add_top-requires-clause-divides g c =
    let ring = c.args.ring.now in
    let list = g.L.Vectors.listed c.args.members.now in
    let x = c.index-pairs-i.result in
    let h : IsMemberPair (variables ring) ring.weights list x = Each_at (IsMemberPair (variables ring) ring.weights list) c.args.pairs.now c.loop-i.i x c.requires.pairs c.loop-i-test.true c.index-pairs-i.is in
    (pair_divides (variables ring) ring.weights list x h).0

pub add_top-requires-clause-position : goal.add_top-requires-clause-position
add_top-requires-clause-position g c =
    let ring = c.args.ring.now in
    let list = g.L.Vectors.listed c.args.members.now in
    let x = c.index-pairs-i.result in
    let h : IsMemberPair (variables ring) ring.weights list x = Each_at (IsMemberPair (variables ring) ring.weights list) c.args.pairs.now c.loop-i.i x c.requires.pairs c.loop-i-test.true c.index-pairs-i.is in
    (pair_position (variables ring) ring.weights list x h).0

pub add_top-requires-clause-pair : goal.add_top-requires-clause-pair
add_top-requires-clause-pair g c = (c.loop-i.i, c.loop-i-test.true, sym c.index-pairs-i.is)

pub add_top-requires-in-loop-i-clause-divides : goal.add_top-requires-in-loop-i-clause-divides
add_top-requires-in-loop-i-clause-divides g c =
    let ring = c.args.ring.now in
    let list = g.L.Vectors.listed c.args.members.now in
    let x = c.index-pairs-i.result in
    let h : IsMemberPair (variables ring) ring.weights list x = Each_at (IsMemberPair (variables ring) ring.weights list) c.args.pairs.now c.loop-i.i x c.requires.pairs c.loop-i-test.true c.index-pairs-i.is in
    (pair_divides (variables ring) ring.weights list x h).1

pub loop-i-preserved : goal.loop-i-preserved
loop-i-preserved g c =
    let n = variables c.args.ring.now in
    let ws = c.args.ring.now.weights in
    let list = g.L.Vectors.listed c.args.members.now in
    let x = c.index-pairs-i.result in
    let a = c.args.plan.now in
    let p = c.loop-i.plan in
    let q = c.add_top.new.plan in
    let r = c.add_top-in-loop-i.new.plan in
    let one = c.in-Ok.ensures in
    let two = c.in-Ok-add_top.ensures in
    let both = later_trans n ws list p.keys q.keys r.keys q.rows.items r.rows.items p.products.items q.products.items r.products.items p.led.items q.led.items r.led.items one.later two.later in
    record {
      later = later_trans n ws list a.keys p.keys r.keys p.rows.items r.rows.items a.products.items p.products.items r.products.items a.led.items p.led.items r.led.items c.loop-i.invariant.later both;
      pairs = Each_more (HasPairProducts n list r.products.items) c.args.pairs.now c.loop-i.i x
          (pairs_more n list p.products.items both.more r.products.items (take c.loop-i.i c.args.pairs.now) both.products_more c.loop-i.invariant.pairs) c.loop-i-test.true c.index-pairs-i.is
          (both_tops n list q.products.items r.products.items two.later.more x one.top two.later.products_more two.top);
      traced = two.traced;
      hashed = two.hashed;
      count = omega (arith, c.loop-i.invariant.count, one.one, two.one);
    }
