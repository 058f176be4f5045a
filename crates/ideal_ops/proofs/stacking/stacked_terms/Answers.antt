use Rattle.std.proofs.Common.{ap, get_or, length, subst, sym, ◌<◌, ◌∙◌, ◌≤◌}
use Rattle.term_lists.proofs.Scaling.{Each_at}
use Rattle.term_lists.specs.Vectors.{HasPositions}
use Rattle.ideal_ops.proofs.Room.{block_room, blocks_room}
use Rattle.ideal_ops.proofs.Stacked.{stacked_step}
use Rattle.std.proofs.lemmas.List.{take_all}
use Rattle.operation_laws.specs.Operations.{stacked}
use Rattle.term_lists.specs.Rings.{variables}
use Rattle.term_lists.specs.Vectors.{AreTermsOver, sum_of, sums_of}
use Rattle.ideal_ops.proofs.stacking.stacked_terms.Goals as goal

pub loop-j-preserved : goal.loop-j-preserved
loop-j-preserved c =
    let by = c.args.by.now in
    let j = c.loop-j.j in
    let x = c.index-as_slice-j.result in
    let lt : j < length by = subst (λ z. j < z) c.len-j-end.ensures c.loop-j-test.true in
    let step =
    stacked_step c.args.ring.now c.args.rank j c.first_of_block-first.result by x c.loop-j.terms.items _ lt
    (c.index-as_slice-j.is ∙ ap (λ z. get_or z j x) c.as_slice.ensures) c.first_of_block-first.ensures.value c.in_ok-push_raised.ensures
    c.requires.terms c.loop-j.invariant.over c.loop-j.invariant.sum in
    record { over = step.0; sum = step.1 }

pub first_of_block-first-requires-clause-room : goal.first_of_block-first-requires-clause-room
first_of_block-first-requires-clause-room c = blocks_room c.args.rank c.len.result (length c.args.by.now) c.len.ensures c.requires.room

pub push_raised-requires : goal.push_raised-requires
push_raised-requires c =
    let rank = c.args.rank in
    let by = c.args.by.now in
    let j = c.loop-j.j in
    let x = c.index-as_slice-j.result in
    let lt : j < length by = subst (λ z. j < z) c.len-j-end.ensures c.loop-j-test.true in
    record {
      positions = Each_at (HasPositions rank) by j x c.requires.positions lt (c.index-as_slice-j.is ∙ ap (λ z. get_or z j x) c.as_slice.ensures);
      room = block_room _ rank c.len.result (length by) c.len.ensures c.first_of_block-first.ensures.low c.requires.room;
    }

pub loop-j-init : goal.loop-j-init
loop-j-init c = record {
  over = subst (AreTermsOver c.args.ring.now) (sym c.in_ok-terms.ensures.items) tt;
  sum = ap (sum_of (variables c.args.ring.now)) c.in_ok-terms.ensures.items;
}

pub returns-clause-terms : goal.returns-clause-terms
returns-clause-terms c = c.loop-j.invariant.over

pub returns-clause-sum : goal.returns-clause-sum
returns-clause-sum c =
    let by = c.args.by.now in
    let j = c.loop-j.j in
    c.loop-j.invariant.sum
    ∙ ap (λ l. stacked c.args.rank 0 (sums_of (variables c.args.ring.now) l)) (take_all j by (subst (λ z. z ≤ j) c.len-j-end.ensures c.loop-j-test.false))
