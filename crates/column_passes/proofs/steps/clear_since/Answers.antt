use Rattle.std.proofs.Common.{arith, drop, get_or, subst, ◌<◌, ◌≤◌}
use Rattle.formal_sums.specs.FormalSums.{Each}
use Rattle.term_lists.specs.Rings.{variables}
use Rattle.term_lists.specs.Vectors.{sum_of}
use Rattle.column_passes.specs.Passing.{cleared_all}
use Rattle.column_passes.proofs.Numbering.{next_cleared, next_none}
use Rattle.column_passes.proofs.steps.clear_since.Goals as goal

pub returns-then-next-len-clause-sum : goal.returns-then-next-len-clause-sum
returns-then-next-len-clause-sum c =
    let ring = c.args.ring.now in
    let numbers = c.args.table.now.numbers.items in
    let from = c.loop-alloc.from in
    let next = c.next_step-next.result in
    let least =
    subst (λ ns. Each (λ t. from ≤ get_or ns t.0.position 18446744073709551615 → next ≤ get_or ns t.0.position 18446744073709551615) c.loop-alloc.out)
    c.deref.ensures.value c.next_step-next.ensures.least
    in
    next_none ring numbers c.args.table.now.steps.items from next c.loop-alloc.out _ c.requires.numbered c.next_step-next.ensures.from least
    c.loop-alloc.invariant.sum (omega arith)

pub loop-alloc-preserved : goal.loop-alloc-preserved
loop-alloc-preserved c =
    let ring = c.args.ring.now in
    let above : 1 < ring.modulus.value = (c.lawful_setting.ensures 0).domain.above_one in
    let numbers = c.args.table.now.numbers.items in
    let from = c.loop-alloc.from in
    let next = c.next_step-next.result in
    let least =
    subst (λ ns. Each (λ t. from ≤ get_or ns t.0.position 18446744073709551615 → next ≤ get_or ns t.0.position 18446744073709551615) c.loop-alloc.out)
    c.deref.ensures.value c.next_step-next.ensures.least
    in
    record {
      vector = c.in-Ok.ensures.vector;
      sum = next_cleared ring numbers c.args.table.now.steps.items from next c.loop-alloc.out
          (cleared_all ring (drop c.args.since c.args.table.now.steps.items) (sum_of (variables ring) c.args.v))
          c.requires.numbered c.next_step-next.ensures.from least c.loop-alloc.invariant.sum
          (omega (arith, above)) c.index-step.result.now c.in-Ok.cleared (omega arith) c.index-step.ensures c.in-Ok.ensures.sum;
    }
