use Rattle.std.proofs.Common.{arith}
use Rattle.std.proofs.lemmas.Result.{on_ok_weaker}
use Rattle.poly_text.proofs.Entries.{later_ends, later_none, later_step}
use Rattle.poly_text.proofs.Writing.{begins_more}
use Rattle.poly_text.proofs.vector.append_later.Goals as goal

pub append_entry-requires : goal.append_entry-requires
append_entry-requires c = c.requires

pub returns-then-position-rank-clause-ok : goal.returns-then-position-rank-clause-ok
returns-then-position-rank-clause-ok c =
    on_ok_weaker c.push_zeros.result
    (λ k. later_ends _ c.args.rank c.loop-next.next c.args.terms.now c.loop-next.out c.push_zeros.new.self _ (omega arith)
    (λ i from below. c.next_position-position.ensures.empty i from (omega arith)) k c.loop-next.invariant.1)
    c.push_zeros.ensures.ok

pub loop-next-preserved : goal.loop-next-preserved
loop-next-preserved c = (
  begins_more c.args.out.now c.push_gap.new.self c.append_entry.new.out _
      (begins_more c.args.out.now c.loop-next.out c.push_gap.new.self _ c.loop-next.invariant.0 c.in-Ok.ensures.ok) c.in-Ok-append_entry.ensures.ok,
  later_step _ c.args.rank c.loop-next.next c.next_position-position.result c.args.terms.now c.loop-next.out c.push_gap.new.self c.append_entry.new.out _
      c.next_position-position.ensures.within.0 (omega arith) c.next_position-position.ensures.empty c.in-Ok.ensures.ok c.in-Ok-append_entry.ensures.ok c.loop-next.invariant.1,
)

pub returns-clause-ok : goal.returns-clause-ok
returns-clause-ok c = later_none _ c.args.rank c.loop-next.next c.args.terms.now c.loop-next.out _ c.loop-next-test.false c.loop-next.invariant.1
