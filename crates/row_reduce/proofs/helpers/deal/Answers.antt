use Rattle.std.proofs.Common.{arith, length, ◌++◌, ◌<◌}
use Rattle.row_reduce.proofs.HelpedRows.{dealt_last, dealt_none, dealt_other, dealt_whole}
use Rattle.row_reduce.proofs.helpers.deal.Goals as goal
use Rattle.row_reduce.proofs.helpers.deal.Goals.{then-i-n+in_ok-push, else-i-n+in_ok-push-2}

pub loop-i-preserved : goal.loop-i-preserved
loop-i-preserved c =
    let mine = c.args.mine.now in
    let old = c.loop-i.dealt in
    let i = c.loop-i.i in
    let lt : i < length mine = omega (arith, c.loop-i-test.true) in
    elim c.if-i-n.branch [
      | then-i-n+in_ok-push w ↦
          rw w.dealt-is (dealt_last mine old.others.items old.last.items w.push.new.self.items i 0 lt c.loop-i.invariant w.in_ok-push.ensures.items)
      | else-i-n+in_ok-push-2 w ↦
          rw w.dealt-is
          (dealt_other mine old.others.items w.push-else-i-n.new.self.items old.last.items i 0 lt c.loop-i.invariant w.in_ok-push-2.ensures.items)
    ]

pub loop-i-init : goal.loop-i-init
loop-i-init c =
    dealt_none c.args.mine.now c.in_ok-with_capacity.field-0.items c.new.result.items c.in_ok-with_capacity.ensures.items c.new.ensures.items

pub nonzero_rem-i : goal.nonzero_rem-i
nonzero_rem-i c = let n = c.requires in omega (arith, n)

pub overflow_sub-n : goal.overflow_sub-n
overflow_sub-n c = let n = c.requires in omega (arith, n)

pub returns : goal.returns
returns c =
    let dealt = c.loop-i.dealt in
    dealt_whole c.args.mine.now (dealt.others.items ++ dealt.last.items) c.loop-i.i c.loop-i-test.false c.loop-i.invariant
