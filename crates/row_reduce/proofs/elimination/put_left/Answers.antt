use Rattle.std.proofs.Common.{ap, arith, length, set, sym, ◌∙◌, ◌≡◌}
use Rattle.std.proofs.lemmas.List.{length-map, map-set}
use Rattle.row_matrix.specs.Rows.{RowShown, first_column}
use Rattle.dense_reduction.proofs.Reducing.{first_column_read}
use Rattle.dense_reduction.specs.Words.{row_leads_of}
use Rattle.row_reduce.proofs.elimination.put_left.Goals as goal

pub returns-clause-leads : goal.returns-clause-leads
returns-clause-leads c =
    let rows = c.args.state.now.rows.items in
    let l = c.args.left in
    let lead : c.from.result ≡ first_column l.row.entries = c.from.ensures ∙ first_column_read c.entries.result.now ∙ ap first_column c.entries.ensures in
    ap (λ xs. set xs l.number c.from.result) c.requires.leads ∙ ap (λ x. set (row_leads_of rows) l.number x) lead
    ∙ sym (map-set (λ (r : RowShown). first_column r.entries) rows l.number l.row)

pub bounds-entries-0 : goal.bounds-entries-0
bounds-entries-0 c = omega (arith, c.requires.some, ap length c.entries.ensures)

pub index_mut-requires : goal.index_mut-requires
index_mut-requires c =
    let state = c.args.state.now in
    omega (arith, c.requires.within, ap length c.requires.leads, length-map state.rows.items (λ (r : RowShown). first_column r.entries), state.leads.ok.0)

pub index_mut-requires-2 : goal.index_mut-requires-2
index_mut-requires-2 c = omega (arith, c.requires.within, c.args.state.now.rows.ok.0)
