use Rattle.std.proofs.Common.{ap, arith, get_or, length, ◌++◌, ◌<◌, ◌∙◌}
use Rattle.std.proofs.lemmas.List.{length-replicate, length-set}
use Rattle.term_lists.proofs.Parts.{Each_member}
use Rattle.row_reduce.proofs.HelpedRows.{dealt_last, dealt_none, dealt_other, dealt_whole}
use Rattle.row_reduce.proofs.choosing.free_rows.Goals as goal
use Rattle.row_reduce.proofs.choosing.free_rows.Goals.{then-is_some+in_ok-push, else-is_some+in_ok-push-2}

pub loop-i-preserved : goal.loop-i-preserved
loop-i-preserved c =
    let pending = c.args.pending.now in
    let old = c.loop-i.parts in
    let i = c.loop-i.i in
    let v = c.loop-i.invariant in
    let lt : i < length pending = omega (arith, c.loop-i-test.true) in
    record {
      split = elim c.if-is_some.branch [
        | then-is_some+in_ok-push w ↦
            rw w.parts-is (dealt_last pending old.first.items old.others.items w.push.new.self.items i 0 lt v.split w.in_ok-push.ensures.items)
        | else-is_some+in_ok-push-2 w ↦
            rw w.parts-is
            (dealt_other pending old.first.items w.push-else-is_some.new.self.items old.others.items i 0 lt v.split w.in_ok-push-2.ensures.items)
      ];
      wide = length-set c.loop-i.taken.items (get_or c.args.leads.now (get_or pending i 0) 0) _ ∙ v.wide;
    }

pub loop-i-init : goal.loop-i-init
loop-i-init c = record {
  split =
      dealt_none c.args.pending.now c.new.result.items c.in_ok-with_capacity.field-0.items c.new.ensures.items c.in_ok-with_capacity.ensures.items;
  wide = ap length (c.in_ok-taken.ensures.items_if_clones_equal (λ y e. e)) ∙ length-replicate (length c.args.held.now) _;
}

pub returns : goal.returns
returns c =
    let parts = c.loop-i.parts in
    dealt_whole c.args.pending.now (parts.first.items ++ parts.others.items) c.loop-i.i c.loop-i-test.false c.loop-i.invariant.split

pub bounds-leads-pending : goal.bounds-leads-pending
bounds-leads-pending c =
    Each_member (λ k. k < length c.args.leads.now) c.args.pending.now c.loop-i.i 0 c.requires.known c.loop-i-test.true

pub bounds-held-column : goal.bounds-held-column
bounds-held-column c =
    let leads = c.args.leads.now in
    let known = Each_member (λ k. k < length leads) c.args.pending.now c.loop-i.i 0 c.requires.known c.loop-i-test.true in
    Each_member (λ m. m < length c.args.held.now) leads (get_or c.args.pending.now c.loop-i.i 0) 0 c.requires.within known

pub index-requires : goal.index-requires
index-requires c =
    let leads = c.args.leads.now in
    let known = Each_member (λ k. k < length leads) c.args.pending.now c.loop-i.i 0 c.requires.known c.loop-i-test.true in
    let within = Each_member (λ m. m < length c.args.held.now) leads (get_or c.args.pending.now c.loop-i.i 0) 0 c.requires.within known in
    omega (arith, within, c.loop-i.invariant.wide, c.loop-i.taken.ok.0)

pub index_mut-requires : goal.index_mut-requires
index_mut-requires c =
    let leads = c.args.leads.now in
    let known = Each_member (λ k. k < length leads) c.args.pending.now c.loop-i.i 0 c.requires.known c.loop-i-test.true in
    let within = Each_member (λ m. m < length c.args.held.now) leads (get_or c.args.pending.now c.loop-i.i 0) 0 c.requires.within known in
    omega (arith, within, c.loop-i.invariant.wide, c.loop-i.taken.ok.0)
