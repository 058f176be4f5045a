use Rattle.std.proofs.Common.{[], ap, arith, get_or, length, map, subst, sym, ◌<◌, ◌∙◌, ◌≡◌, ◌≤◌}
use Rattle.std.proofs.lemmas.List.{get_or_default}
use Rattle.betti_laws.specs.ConstantParts.{constant_part}
use Rattle.formal_sums.specs.FormalSums.{IsSame}
use Rattle.term_lists.proofs.Scaling.{Each_at}
use Rattle.term_lists.specs.Rings.{variables}
use Rattle.term_lists.specs.Vectors.{AreTermsOver, sums_of}
use Rattle.column_passes.specs.Passing.{LeaveNumbered, indices_of}
use Rattle.column_passes.specs.Placing.{ArePlacesAfter}
use Rattle.column_passes.specs.Sorting.{numbers_from}
use Rattle.column_passes.proofs.ByDegree.{by_degree, order_is}
use Rattle.column_passes.proofs.Passes.{number_inside, others_first}
use Rattle.constant_rows.specs.Rows.{entry_constants}
use Rattle.constant_passes.specs.Choosing.{AreFree, IsChosen, columns_without_rows}
use Rattle.constant_passes.specs.Listing.{constants_at}
use Rattle.constant_passes.specs.Steps.{cleared_by_constants}
use Rattle.constant_passes.proofs.Lifting.{chosen_is, parts_graded}
use Rattle.constant_passes.proofs.Listings.{column_is, columns_count}
use Rattle.constant_passes.proofs.Meeting.{AreMet, all_met, free_here, if_two, meet_more, met_start, start_over}
use Rattle.constant_passes.proofs.choosing.chosen.Goals as goal

pub loop-k-init : goal.loop-k-init
loop-k-init c =
    let ring = c.args.ring.now in
    let columns = c.args.columns.now in
    record {
      met = λ rows h. met_start ring (map constant_part (columns_without_rows rows (sums_of (variables ring) columns))) c.in_ok-order.order.items
          c.in_ok-pass.pass.table.steps.items c.in_ok-pass.pass.choices.items c.in_ok-pass.ensures.steps
          (c.in_ok-pass.ensures.choices ∙ sym (columns_count (variables ring) rows columns));
      over = start_over ring (length columns) c.in_ok-pass.pass c.in_ok-pass.ensures;
    }

pub terms_at-terms-requires : goal.terms_at-terms-requires
terms_at-terms-requires c =
    number_inside c.args.degrees.now (length c.args.columns.now) c.in_ok-order.order.items c.loop-k.k c.index-number.result.now c.in_ok-order.ensures
    (omega arith) c.index-number.ensures

pub meet-requires-clause-terms : goal.meet-requires-clause-terms
meet-requires-clause-terms c =
    let ring = c.args.ring.now in
    let columns = c.args.columns.now in
    let i = c.index-number.result.now in
    let inside = number_inside c.args.degrees.now (length columns) c.in_ok-order.order.items c.loop-k.k i c.in_ok-order.ensures (omega arith)
    c.index-number.ensures in
    subst (AreTermsOver ring) (sym c.terms_at-terms.ensures)
    (Each_at (AreTermsOver ring) columns i (get_or columns i []) c.requires.terms inside (get_or_default columns i [] (get_or columns i []) inside))

pub meet-requires-clause-inside : goal.meet-requires-clause-inside
meet-requires-clause-inside c =
    let columns = c.args.columns.now in
    let i = c.index-number.result.now in
    let inside = number_inside c.args.degrees.now (length columns) c.in_ok-order.order.items c.loop-k.k i c.in_ok-order.ensures (omega arith)
    c.index-number.ensures in
    let told = c.requires.leaving in
    let many : length c.loop-k.pass.choices.items ≡ length columns =
    (c.loop-k.invariant.met told.0 told.1).count ∙ columns_count (variables c.args.ring.now) told.0 columns in
    subst (λ z. i < z) (sym many) inside

pub meet-requires-clause-free : goal.meet-requires-clause-free
meet-requires-clause-free c rows h =
    let ring = c.args.ring.now in
    let n = variables ring in
    let above : 1 < ring.modulus.value = (c.lawful_setting.ensures 0).domain.above_one in
    let columns = c.args.columns.now in
    let i = c.index-number.result.now in
    let K = map constant_part (columns_without_rows rows (sums_of n columns)) in
    let steps = c.loop-k.pass.table.steps.items in
    subst (AreFree ring steps) (column_is n rows columns i ∙ sym (ap (constants_at n rows) c.terms_at-terms.ensures))
    (free_here ring (omega (arith, above)) K c.in_ok-order.order.items c.loop-k.k steps c.loop-k.pass.choices.items (c.loop-k.invariant.met rows h) i)

pub loop-k-preserved : goal.loop-k-preserved
loop-k-preserved c =
    let ring = c.args.ring.now in
    let n = variables ring in
    let p = ring.modulus.value in
    let above : 1 < p = (c.lawful_setting.ensures 0).domain.above_one in
    let columns = c.args.columns.now in
    let degrees = c.args.degrees.now in
    let order = c.in_ok-order.order.items in
    let k = c.loop-k.k in
    let i = c.index-number.result.now in
    let steps = c.loop-k.pass.table.steps.items in
    let inside = number_inside degrees (length columns) order k i c.in_ok-order.ensures (omega arith) c.index-number.ensures in
    let first = others_first degrees (length columns) order k i c.in_ok-order.ensures (omega arith) c.index-number.ensures in
    record {
      met = λ rows h.
          let K = map constant_part (columns_without_rows rows (sums_of n columns)) in
          let m = c.in_ok-meet.ensures.met rows h in
          let is = ap (constants_at n rows) c.terms_at-terms.ensures ∙ sym (column_is n rows columns i) in
          meet_more ring (omega (arith, above)) K order k steps c.loop-k.pass.choices.items (c.loop-k.invariant.met rows h) i (omega arith)
          c.index-number.ensures (subst (λ z. i < z) (sym (columns_count n rows columns)) inside) first m.column m.over
          (subst (λ z. IsSame p (entry_constants n m.column.entries.items) (cleared_by_constants ring steps z)) is m.left)
          c.meet.new.pass.table.steps.items c.meet.new.pass.choices.items m.chosen;
      over = c.in_ok-meet.ensures.pass;
    }

pub returns : goal.returns
returns c rows h =
    let ring = c.args.ring.now in
    let n = variables ring in
    let above : 1 < ring.modulus.value = (c.lawful_setting.ensures 0).domain.above_one in
    let columns = c.args.columns.now in
    let degrees = c.args.degrees.now in
    let order = c.in_ok-order.order.items in
    let k = c.loop-k.k in
    let pass = c.loop-k.pass in
    let F = columns_without_rows rows (sums_of n columns) in
    let K = map constant_part F in
    let graded = c.requires.graded rows h in
    let le : length order ≤ k = omega arith in
    let few : length pass.table.steps.items ≤ 18446744073709551615 = omega arith in
    let is : order ≡ by_degree degrees (numbers_from 0 (length K)) =
    order_is degrees (length columns) order c.in_ok-order.ensures
    ∙ ap (λ i. by_degree degrees (numbers_from 0 i)) (sym (columns_count n rows columns)) in
    let met = subst (λ z. AreMet ring K z k pass.table.steps.items pass.choices.items) is (c.loop-k.invariant.met rows h) in
    let over = c.loop-k.invariant.over in
    if_two c.finish.result (λ x. LeaveNumbered c.deref.result.now x.rows) (λ x. ArePlacesAfter (indices_of 0 c.deref-2.result.now) x.indices)
    (IsChosen ring F)
    (λ x leave indices. chosen_is ring (omega (arith, above)) graded.0 degrees F x graded.1
    (all_met ring (omega (arith, above)) K graded.0 degrees (parts_graded ring graded.0 degrees F graded.1) k pass.table.steps.items pass.choices.items met
    (subst (λ z. length z ≤ k) is le) x pass.table.numbers.items over.numbered over.others few
    (subst (λ z. LeaveNumbered z x.rows) c.deref.ensures.value leave)
    (subst (λ z. ArePlacesAfter (indices_of 0 z) x.indices) c.deref-2.ensures.value indices)))
    c.finish.ensures.rows c.finish.ensures.indices
