use Rattle.std.proofs.Common.{ap, drop, length, refl, subst, sym, ◌+◌, ◌++◌, ◌∙◌}
use Rattle.row_matrix.specs.Rows.{AreEntries, RowShown, shown_row_at}
use Rattle.dense_reduction.proofs.Clearing.{pivot_row}
use Rattle.dense_reduction.specs.Pivots.{lead_column}
use Rattle.dense_reduction.specs.Rests.{rows_left}
use Rattle.dense_reduction.proofs.reduction.add_pivot.Goals as goal

pub add_tail-work-requires-clause-entries : goal.add_tail-work-requires-clause-entries
add_tail-work-requires-clause-entries c =
    let p = c.args.shared.modulus.now.value in
    let count = length c.args.work.now.numbers.items in
    let rows = c.args.shared.rows.now ++ rows_left c.args.own.now.left.items in
    let h = pivot_row p (lead_column rows c.args.pivot) count c.args.shared.inputs rows c.args.pivot c.requires.rows c.requires.known refl in
    (lead_column rows c.args.pivot + 1, subst (λ (r : RowShown). AreEntries p (lead_column rows c.args.pivot + 1) count (drop 1 r.entries)) (sym (c.row_numbered-row.ensures ∙ ap (λ left. shown_row_at (c.args.shared.rows.now ++ rows_left left) c.args.pivot) c.as_slice.ensures.value)) h.tail)
