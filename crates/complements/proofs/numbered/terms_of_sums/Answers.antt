use Rattle.std.proofs.Common.{drop, get_or, subst, sym, ◌+◌}
use Rattle.term_lists.specs.Rings.{variables}
use Rattle.term_lists.specs.Vectors.{sum_of}
use Rattle.row_matrix.specs.Rows.{column_key}
use Rattle.numbered_sums.proofs.NumberedSums.{idle_rest, zeroed_rest}
use Rattle.numbered_sums.specs.KeySums.{AreTouched, numbered_sum}
use Rattle.remainders.proofs.Leaving.{left_all}
use Rattle.complements.proofs.Gathering.{beside_more, beside_start, still_touched}
use Rattle.complements.specs.Combining.{AreTermsBeside, IsSumTaken}
use Rattle.complements.proofs.numbered.terms_of_sums.Goals as goal

pub loop-one-init : goal.loop-one-init
loop-one-init c = record {
  beside = subst (λ t. AreTermsBeside c.args.ring.now c.args.numbers.now c.args.sums.now.items c.args.sums.now.items t) (sym c.in_ok-terms.ensures.items)
      (beside_start c.args.ring.now c.args.numbers.now c.args.sums.now.items);
  rest = c.requires.touched;
}

pub loop-one-preserved : goal.loop-one-preserved
loop-one-preserved c =
    let ring = c.args.ring.now in
    let keys = c.args.numbers.now in
    let sums = c.loop-one.sums.items in
    let left = c.take_term.new.sums.items in
    let old = c.loop-one.terms.items in
    let new = c.take_term.new.terms.items in
    let taken = c.in_ok-take_term.ensures c.if-not-branch.false in
    record {
      beside = beside_more ring keys _ c.args.sums.now.items sums left old new c.loop-one.invariant.beside taken;
      rest = still_touched ring keys _ c.args.touched.now sums left old new c.loop-one.invariant.rest taken;
    }

pub loop-number-preserved : goal.loop-number-preserved
loop-number-preserved c =
    let ring = c.args.ring.now in
    let keys = c.args.numbers.now in
    let touched = c.args.touched.now in
    let i = c.loop-number.number-index in
    let sums = c.loop-number.sums.items in
    let left = c.take_term-in-loop-number.new.sums.items in
    let old = c.loop-number.terms.items in
    let new = c.take_term-in-loop-number.new.terms.items in
    let taken : IsSumTaken ring keys (get_or touched i 0) sums left old new = c.in_ok-take_term-2.ensures c.if-not-branch-2.false in
    record {
      beside = beside_more ring keys (get_or touched i 0) c.args.sums.now.items sums left old new c.loop-number.invariant.beside taken;
      rest = subst (AreTouched (drop (i + 1) touched)) (sym taken.zero) (zeroed_rest touched i sums c.loop-number.invariant.rest c.loop-number-test.true taken.within);
    }

pub returns-clause-terms : goal.returns-clause-terms
returns-clause-terms c =
    let n = variables c.args.ring.now in
    let K = column_key n c.args.numbers.now in
    let beside = c.loop-number.invariant.beside in
    record {
      over = beside.over;
      sum = left_all K c.loop-number.sums.items c.args.touched.now c.loop-number.number-index (numbered_sum K 0 c.args.sums.now.items) (sum_of n c.loop-number.terms.items)
          beside.sum c.loop-number.invariant.rest c.loop-number-test.false;
    }

pub returns-clause-zero : goal.returns-clause-zero
returns-clause-zero c = idle_rest c.args.touched.now c.loop-number.number-index c.loop-number.sums.items c.loop-number.invariant.rest c.loop-number-test.false
