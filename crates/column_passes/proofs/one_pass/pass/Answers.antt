use Rattle.std.proofs.Common.{Err, List, Ok, Result, [], ap, arith, get_or, length, map, subst, sym, ℕ, ◌≤◌, ◌∙◌}
use Rattle.std.specs.Prelude.{IfOk}
use Rattle.std.proofs.lemmas.List.{get_or_default, get_or_past}
use Rattle.term_lists.proofs.Scaling.{Each_at}
use Rattle.term_lists.specs.Rings.{ring_comparison, variables}
use Rattle.term_lists.specs.Vectors.{IsVectorOver, StandsFor, sum_of}
use Rattle.vector_division.proofs.Members.{sums_at}
use Rattle.column_passes.specs.Passing.{AreFinished, AreNumbered, IsPassed, LeaveNumbered, cleared_all, indices_in_turn}
use Rattle.column_passes.specs.Placing.{ArePlacesAfter}
use Rattle.column_passes.specs.declared.steps.Step.{Step}
use Rattle.column_passes.proofs.ByDegree.{order_is}
use Rattle.column_passes.proofs.Passes.{AreMet, free_here, meet_more, met_start, number_inside, others_first, pass_all}
use Rattle.column_passes.proofs.one_pass.pass.Goals as goal

pub loop-k-init : goal.loop-k-init
loop-k-init c = record {
  met = met_start c.args.ring.now c.args.columns.now c.in_ok-order.order.items c.new.result.items c.in_ok-met.met.items c.new.ensures.items
      c.in_ok-met.ensures.count c.in_ok-met.ensures.none;
  numbered = subst (λ z. AreNumbered c.new-2.result.items 0 (map (λ (s : Step). s.row) z)) (sym c.new.ensures.items) tt;
  others = λ q none. ap (λ z. get_or z q 18446744073709551615) c.new-2.ensures.items ∙ get_or_past [] q 18446744073709551615 (omega arith);
}

pub column_copy-requires : goal.column_copy-requires
column_copy-requires c =
    number_inside c.args.degrees.now (length c.args.columns.now) c.in_ok-order.order.items c.loop-k.k c.index-number.result.now c.in_ok-order.ensures
    (omega arith) c.index-number.ensures

pub clear_since-requires-clause-vector : goal.clear_since-requires-clause-vector
clear_since-requires-clause-vector c =
    let ring = c.args.ring.now in
    let columns = c.args.columns.now in
    let i = c.index-number.result.now in
    let inside = number_inside c.args.degrees.now (length columns) c.in_ok-order.order.items c.loop-k.k i c.in_ok-order.ensures (omega arith)
    c.index-number.ensures in
    subst (IsVectorOver ring (ring_comparison ring)) (sym c.in_ok-copy.ensures)
    (Each_at (IsVectorOver ring (ring_comparison ring)) columns i (get_or columns i []) c.requires.vectors inside
    (get_or_default columns i [] (get_or columns i []) inside))

pub sort_column-requires-clause-inside : goal.sort_column-requires-clause-inside
sort_column-requires-clause-inside c =
    let inside = number_inside c.args.degrees.now (length c.args.columns.now) c.in_ok-order.order.items c.loop-k.k c.index-number.result.now
    c.in_ok-order.ensures (omega arith) c.index-number.ensures in
    omega (arith, inside, c.loop-k.invariant.met.count)

pub sort_column-requires-clause-free : goal.sort_column-requires-clause-free
sort_column-requires-clause-free c =
    let ring = c.args.ring.now in
    let columns = c.args.columns.now in
    let degrees = c.args.degrees.now in
    let order = c.in_ok-order.order.items in
    let steps = c.loop-k.table.steps.items in
    let i = c.index-number.result.now in
    let k = c.loop-k.k in
    let inside = number_inside degrees (length columns) order k i c.in_ok-order.ensures (omega arith) c.index-number.ensures in
    let first = others_first degrees (length columns) order k i c.in_ok-order.ensures (omega arith) c.index-number.ensures in
    let stands = subst (λ z. StandsFor ring c.in-Ok.after (cleared_all ring steps z))
    (ap (sum_of (variables ring)) c.in_ok-copy.ensures ∙ sym (sums_at (variables ring) columns i)) c.in-Ok.ensures.sum in
    free_here ring (c.lawful_setting.ensures 0) columns c.requires.graded.0 degrees c.requires.graded.1 order k steps c.loop-k.met.items
    c.loop-k.invariant.met i (omega arith) c.index-number.ensures inside first c.in-Ok.after c.in-Ok.ensures.vector stands

pub loop-k-preserved : goal.loop-k-preserved
loop-k-preserved c =
    let ring = c.args.ring.now in
    let columns = c.args.columns.now in
    let degrees = c.args.degrees.now in
    let order = c.in_ok-order.order.items in
    let steps = c.loop-k.table.steps.items in
    let i = c.index-number.result.now in
    let k = c.loop-k.k in
    let inside = number_inside degrees (length columns) order k i c.in_ok-order.ensures (omega arith) c.index-number.ensures in
    let first = others_first degrees (length columns) order k i c.in_ok-order.ensures (omega arith) c.index-number.ensures in
    let stands = subst (λ z. StandsFor ring c.in-Ok.after (cleared_all ring steps z))
    (ap (sum_of (variables ring)) c.in_ok-copy.ensures ∙ sym (sums_at (variables ring) columns i)) c.in-Ok.ensures.sum in
    record {
      met = meet_more ring (c.lawful_setting.ensures 0) columns c.requires.graded.0 degrees c.requires.graded.1 order k steps c.loop-k.met.items
          c.loop-k.invariant.met i (omega arith) c.index-number.ensures inside first c.in-Ok.after c.in-Ok.ensures.vector stands
          c.sort_column.new.table.steps.items c.sort_column.new.met.items c.in_ok-sort_column-in-Ok.ensures.sorted;
      numbered = c.in_ok-sort_column-in-Ok.ensures.numbered;
      others = c.in_ok-sort_column-in-Ok.ensures.others;
    }

pub finish_pass-requires-clause-steps : goal.finish_pass-requires-clause-steps
finish_pass-requires-clause-steps c = c.loop-k.invariant.met.steps_over

pub finish_pass-requires-clause-numbered : goal.finish_pass-requires-clause-numbered
finish_pass-requires-clause-numbered c = c.loop-k.invariant.numbered

pub finish_pass-requires-clause-met : goal.finish_pass-requires-clause-met
finish_pass-requires-clause-met c = c.loop-k.invariant.met.over

if_all : {X E : Type 0} (r : Result X E) (A B C Q : X → Type 0) → ((x : X) → A x → B x → C x → Q x) → IfOk r A → IfOk r B → IfOk r C → IfOk r Q
if_all (Ok x) A B C Q f a b c = f x a b c
if_all (Err e) A B C Q f a b c = tt

pub returns : goal.returns
returns c =
    let ring = c.args.ring.now in
    let columns = c.args.columns.now in
    let steps = c.loop-k.table.steps.items in
    let met = c.loop-k.met.items in
    let k = c.loop-k.k in
    let le : length c.in_ok-order.order.items ≤ k = omega arith in
    let is = order_is c.args.degrees.now (length columns) c.in_ok-order.order.items c.in_ok-order.ensures in
    let h = subst (λ z. AreMet ring columns z k steps met) is c.loop-k.invariant.met in
    let few : length steps ≤ 18446744073709551615 = omega arith in
    if_all c.finish_pass.result (λ p. LeaveNumbered c.loop-k.table.numbers.items p.rows) (λ p. ArePlacesAfter (indices_in_turn 0 met) p.indices)
    (λ p. (rows : List ℕ) → ArePlacesAfter rows p.rows → AreFinished ring steps rows met p.columns) (IsPassed ring columns)
    (λ p rows indices finished. pass_all ring (c.lawful_setting.ensures 0) columns c.requires.graded.0 c.args.degrees.now c.requires.graded.1 k steps met h
    (subst (λ z. length z ≤ k) is le) p c.loop-k.table.numbers.items c.loop-k.invariant.numbered c.loop-k.invariant.others few rows finished indices)
    c.finish_pass.ensures.rows c.finish_pass.ensures.indices c.finish_pass.ensures.finished
