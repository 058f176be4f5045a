use Rattle.std.proofs.Common.{arith, get_or, length, ◌<◌, ◌^◌}
use Rattle.std.proofs.lemmas.List.{get_or_default}
use Rattle.term_lists.proofs.Scaling.{Each_at}
use Rattle.row_matrix.specs.Rows.{Entry}
use Rattle.numbered_sums.proofs.NumberedSums.{Each_set, adds_step, touched_more}
use Rattle.numbered_sums.proofs.sums.add_multiple.Goals as goal

pub loop-entry-preserved : goal.loop-entry-preserved
loop-entry-preserved c =
    let p = c.args.modulus.now.value in
    let i = c.loop-entry.entry-index in
    let es = c.args.entries.now in
    let e : Entry = get_or es i (0, 0) in
    let one : 1 < p = c.domain.ensures.above_one in
    let lt : i < length es = c.loop-entry-test.true in
    let is = get_or_default es i (0, 0) e lt in
    let at = Each_at (λ (x : Entry). (x.0 < length c.args.sums.now) × (x.1 < p)) es i e c.requires.within lt is in
    let there : e.0 < length c.loop-entry.sums = omega (arith, at.0, c.loop-entry.invariant.adds.count) in
    let b = c.add_product.result in
    record {
      adds = adds_step p c.args.factor es i e c.args.sums.now c.loop-entry.sums b
          (omega arith) c.loop-entry.invariant.adds lt is c.requires.within c.add_product.ensures.congruent;
      small = Each_set (λ a. a < 2 ^ 63) c.loop-entry.sums e.0 b c.loop-entry.invariant.small c.add_product.ensures.small;
      marked = touched_more c.loop-entry.touched.items c.touch.new.touched.items c.loop-entry.sums e.0 b c.loop-entry.invariant.marked
          (λ j x. c.in_ok-touch.ensures.kept j x) (λ z. c.in_ok-touch.ensures.added z) there;
    }
