use Rattle.std.proofs.Common.{arith, length, ◌<◌}
use Rattle.term_lists.specs.Rings.{variables}
use Rattle.symbolic_prep.proofs.Closing.{closed_more, later_itself, later_trans}
use Rattle.symbolic_prep.proofs.reducers.close_plan.Goals as goal

pub loop-cursor-init : goal.loop-cursor-init
loop-cursor-init g c = record {
  later = later_itself (variables c.args.ring.now) c.args.ring.now.weights (g.L.Vectors.listed c.args.members.now) c.args.plan.now.keys c.args.plan.now.rows.items c.args.plan.now.products.items c.args.plan.now.led.items c.requires.plan;
  closed = λ i l m. absurd (omega arith);
  traced = c.requires.traced;
  hashed = c.requires.hashed;
  sparse = λ chosen others h. (chosen, h);
}

pub loop-cursor-preserved : goal.loop-cursor-preserved
loop-cursor-preserved g c =
    let n = variables c.args.ring.now in
    let ws = c.args.ring.now.weights in
    let list = g.L.Vectors.listed c.args.members.now in
    let a = c.args.plan.now in
    let p = c.loop-cursor.plan in
    let q = c.add_reducer.new.plan in
    let h = c.loop-cursor.invariant in
    let e = c.in-Ok.ensures in
    let lt : c.loop-cursor.cursor < length p.keys = omega (arith, c.len.ensures, c.if-len-cursor.false) in
    record {
      later = later_trans n ws list a.keys p.keys q.keys p.rows.items q.rows.items a.products.items p.products.items q.products.items a.led.items p.led.items q.led.items h.later e.later;
      closed = closed_more n ws list p.keys q.keys q.rows.items p.products.items q.products.items p.led.items q.led.items c.loop-cursor.cursor h.closed e.later lt e.closed;
      traced = e.traced;
      hashed = e.hashed;
      sparse = λ chosen others s. let o = h.sparse chosen others s in e.sparse o.0 others o.1;
    }

pub add_reducer-requires-clause-weighed : goal.add_reducer-requires-clause-weighed
add_reducer-requires-clause-weighed g c = c.requires.weighed
