use Rattle.std.proofs.Common.{[], ap, arith, get_or, length, subst, sym, ◌++◌, ◌<◌, ◌∙◌, ◌∷◌, ◌≡◌, ◌≤◌}
use Rattle.std.proofs.lemmas.List.{take_all}
use Rattle.std.specs.List.{range_with_len}
use Rattle.term_lists.proofs.Parts.{Each_member}
use Rattle.row_matrix.specs.Rows.{RowShown, first_column}
use Rattle.dense_reduction.proofs.Reducing.{first_column_read}
use Rattle.dense_reduction.specs.Words.{row_leads_of}
use Rattle.row_reduce.proofs.Echelons.{leads_push, range_push}
use Rattle.row_reduce.proofs.elimination.begin.Goals as goal

pub loop-row-preserved : goal.loop-row-preserved
loop-row-preserved c =
    let v = c.loop-row.invariant in
    let i = c.loop-row.row-index in
    let rows = c.args.rows.items in
    let lead : c.from.result ≡ first_column c.row-item.result.entries = c.from.ensures ∙ first_column_read c.entries.result.now ∙ ap first_column c.entries.ensures in
    let is : c.row-item.result ≡ get_or rows i c.row-item.result = subst (λ xs. c.row-item.result ≡ get_or xs i c.row-item.result) c.deref-row-items.ensures.value c.row-item.is in
    let lt : i < length rows = omega (arith, c.deref-row-items.ensures.len, c.args.rows.ok.0) in
    record {
      leads = c.push_reserved-in-loop-row.ensures.items ∙ ap (λ xs. xs ++ c.from.result ∷ []) v.leads ∙ leads_push rows i c.row-item.result c.from.result lt is lead;
      pending = c.push_reserved.ensures.items ∙ ap (λ xs. xs ++ c.len-in-loop-row.result ∷ []) v.pending
          ∙ range_push i c.len-in-loop-row.result (omega (arith, v.count, c.len-in-loop-row.ensures));
      count = omega (arith, v.count, c.push_reserved-in-loop-row.ensures.len);
      same = omega (arith, v.same, c.push_reserved.ensures.len);
      room = omega (arith, v.room, c.push_reserved-in-loop-row.ensures.capacity);
      space = omega (arith, v.space, c.push_reserved.ensures.capacity);
    }

pub push_reserved-requires : goal.push_reserved-requires
push_reserved-requires c =
    let v = c.loop-row.invariant in
    omega (arith, v.same, v.space, c.loop-row-test.true, c.deref-row-items.ensures.len, c.args.rows.ok.0)

pub push_reserved-requires-in-loop-row : goal.push_reserved-requires-in-loop-row
push_reserved-requires-in-loop-row c =
    let v = c.loop-row.invariant in
    omega (arith, v.count, v.room, c.loop-row-test.true, c.deref-row-items.ensures.len, c.args.rows.ok.0)

pub bounds-entries-0 : goal.bounds-entries-0
bounds-entries-0 c =
    let rows = c.args.rows.items in
    let i = c.loop-row.row-index in
    let r = c.row-item.result in
    let is : r ≡ get_or rows i r = subst (λ xs. r ≡ get_or xs i r) c.deref-row-items.ensures.value c.row-item.is in
    let lt : i < length rows = omega (arith, c.loop-row-test.true, c.deref-row-items.ensures.len, c.args.rows.ok.0) in
    let some : 0 < length r.entries = subst (λ (x : RowShown). 0 < length x.entries) (sym is) (Each_member (λ (x : RowShown). 0 < length x.entries) rows i r c.requires lt) in
    omega (arith, some, ap length c.entries.ensures)

pub returns-clause-leads : goal.returns-clause-leads
returns-clause-leads c =
    let le : length c.args.rows.items ≤ c.loop-row.row-index = omega (arith, c.loop-row-test.false, c.deref-row-items.ensures.len, c.args.rows.ok.0) in
    c.loop-row.invariant.leads ∙ ap row_leads_of (take_all c.loop-row.row-index c.args.rows.items le)

pub returns-clause-pending : goal.returns-clause-pending
returns-clause-pending c =
    c.loop-row.invariant.pending
    ∙ ap (range_with_len 0) (omega (arith, c.loop-row-test.false, c.loop-row.auto.row-index-end, c.deref-row-items.ensures.len, c.args.rows.ok.0))
