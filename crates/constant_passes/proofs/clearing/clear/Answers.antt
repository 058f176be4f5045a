use Rattle.std.proofs.Common.{List, arith, get_or, subst₂, ℕ, ◌<◌, ◌≤◌}
use Rattle.formal_sums.specs.FormalSums.{Each}
use Rattle.term_lists.proofs.Scaling.{Each_at}
use Rattle.term_lists.specs.Rings.{variables}
use Rattle.constant_rows.proofs.Adding.{zero_sums}
use Rattle.constant_rows.specs.Rows.{entry_constants, row_constants}
use Rattle.constant_passes.specs.Steps.{IsConstantStep, cleared_by_constants}
use Rattle.constant_passes.proofs.Clearings.{rows_end, rows_start, rows_step}
use Rattle.constant_passes.proofs.clearing.clear.Goals as goal

pub add_multiple-requires-clause-factor : goal.add_multiple-requires-clause-factor
add_multiple-requires-clause-factor c = (c.lawful_setting.ensures 0).domain.above_one

pub add_multiple-requires-clause-sums : goal.add_multiple-requires-clause-sums
add_multiple-requires-clause-sums c = zero_sums c.args.rows.now.sums.items c.args.rows.now.touched.items c.requires.zeros

pub loop-k-init : goal.loop-k-init
loop-k-init c =
    let ring = c.args.ring.now in
    let above : 1 < ring.modulus.value = (c.lawful_setting.ensures 0).domain.above_one in
    record {
      kept = c.in_ok-add_multiple.ensures.sums;
      sum = rows_start ring c.args.table.now.steps.items (omega (arith, above)) c.args.table.now.numbers.items c.first_step-first.result
          c.args.rows.now.sums.items c.add_multiple.new.rows.sums.items c.args.found.now.entries.items c.requires.numbered
          (subst₂ (λ (ns : List ℕ) (es : List (ℕ × ℕ)). Each (λ e. c.first_step-first.result ≤ get_or ns e.0 18446744073709551615) es) c.deref.ensures.value
          c.deref-2.ensures.value c.first_step-first.ensures)
          c.requires.zeros c.in_ok-add_multiple.ensures.adds;
    }

pub loop-k-preserved : goal.loop-k-preserved
loop-k-preserved c =
    let ring = c.args.ring.now in
    let above : 1 < ring.modulus.value = (c.lawful_setting.ensures 0).domain.above_one in
    let n = variables ring in
    let steps = c.args.table.now.steps.items in
    record {
      kept = c.in_ok-clear_sums.ensures.sums;
      sum = rows_step ring steps (omega (arith, above)) (cleared_by_constants ring steps (entry_constants n c.args.found.now.entries.items)) c.loop-k.k
          c.index.result.now (row_constants n 0 c.loop-k.rows.sums.items) (row_constants n 0 c.clear_sums.new.rows.sums.items) (omega arith)
          c.index.ensures c.in_ok-clear_sums.ensures.sum c.loop-k.invariant.sum;
    }

pub clear_sums-requires-clause-step : goal.clear_sums-requires-clause-step
clear_sums-requires-clause-step c =
    Each_at (IsConstantStep c.args.ring.now) c.args.table.now.steps.items c.loop-k.k c.index.result.now c.requires.steps (omega arith) c.index.ensures

pub returns-clause-sum : goal.returns-clause-sum
returns-clause-sum c =
    let ring = c.args.ring.now in
    let above : 1 < ring.modulus.value = (c.lawful_setting.ensures 0).domain.above_one in
    let n = variables ring in
    let steps = c.args.table.now.steps.items in
    rows_end ring steps (omega (arith, above)) (cleared_by_constants ring steps (entry_constants n c.args.found.now.entries.items)) c.loop-k.k
    (row_constants n 0 c.loop-k.rows.sums.items) (omega arith) c.loop-k.invariant.sum
