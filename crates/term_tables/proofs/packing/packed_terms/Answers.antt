use Rattle.std.proofs.Common.{arith}
use Rattle.term_tables.proofs.Numbers.{packed_each, packed_more}
use Rattle.term_tables.proofs.packing.packed_terms.Goals as goal

pub loop-term-preserved : goal.loop-term-preserved
loop-term-preserved c = record {
  sum = λ n. rw c.in_ok-push.ensures.items
      (packed_more n c.args.is_left c.args.bases.now c.args.terms.now c.loop-term.packed.items c.loop-term.term-index c.term-item.result c.in-Some.t
      (omega arith) c.term-item.is c.in-Some.ensures (c.loop-term.invariant.sum n));
  packed = λ p each. rw c.in_ok-push.ensures.items
      (packed_each p c.args.is_left c.args.bases.now c.args.terms.now c.loop-term.packed.items c.loop-term.term-index c.term-item.result c.in-Some.t
      (omega arith) c.term-item.is c.in-Some.ensures each (c.loop-term.invariant.packed p each));
}
