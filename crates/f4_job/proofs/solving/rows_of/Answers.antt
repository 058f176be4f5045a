use Rattle.std.proofs.Common.{ap, length, subst, subst₂, sym, ◌<◌, ◌∙◌, ◌≡◌, List}
use Rattle.formal_sums.specs.FormalSums.{Each}
use Rattle.member_products.proofs.Ranks.{ring_lawful}
use Rattle.term_lists.specs.Rings.{ring_comparison, setting, variables}
use Rattle.term_lists.specs.declared.key.Key.{Key as CodeKey}
use Rattle.row_matrix.specs.Rows.{RowShown, first_column}
use Rattle.f4_job.proofs.Represented.{begin_within, solved}
use Rattle.f4_job.specs.Flags.{AreFlags}
use Rattle.f4_job.proofs.solving.rows_of.Goals as goal

pub flags_of-requires : goal.flags_of-requires
flags_of-requires g c =
    let m = c.in-Ok.prepared.matrix in
    let h = begin_within c.args.ring.now.modulus.value (length m.columns) m.inputs m.rows (c.in-Ok.ensures.prepared 0).matrix.rows in
    subst₂ (λ (rows : List RowShown) (columns : List CodeKey). Each
    (λ (r : RowShown). (0 < length r.entries) × (first_column r.entries < length columns)) rows) (sym c.rows.ensures) (sym c.columns.ensures) h

pub echelon-requires-clause-rows : goal.echelon-requires-clause-rows
echelon-requires-clause-rows g c κs within = (c.in-Ok.ensures.prepared 0).matrix.rows

pub unflagged_rows-requires : goal.unflagged_rows-requires
unflagged_rows-requires g c =
    let m = c.in-Ok.prepared.matrix in
    let p = c.args.ring.now.modulus.value in
    let E = c.in_ok-form.form.rows.items in
    let size : length c.deref.result.now ≡ length m.columns = ap length c.deref.ensures.value ∙ c.in_ok-flags.ensures.len ∙ ap length c.columns.ensures in
    subst (λ k. Each (λ (r : RowShown). (0 < length r.entries) × (first_column r.entries < k)) E) (sym size)
    (begin_within p (length m.columns) m.inputs E c.in_ok-form.ensures.rows.rows)

pub returns : goal.returns
returns g c = λ rank.
    let ring = c.args.ring.now in
    let n = variables ring in
    let list = g.L.Vectors.listed c.args.members.now in
    let m = c.in-Ok.prepared.matrix in
    let products = c.in-Ok.prepared.products.items in
    let flags = c.in_ok-flags.flags.items in
    let E = c.in_ok-form.form.rows.items in
    let marked : AreFlags m.rows flags = subst (λ rows. AreFlags rows flags) c.rows.ensures c.in_ok-flags.ensures.flags in
    let h = solved n (setting ring n (ring_comparison ring n) rank) (ring_lawful ring rank) list c.args.pairs.now m products flags E
    c.requires.members c.requires.monic c.requires.pairs (c.in-Ok.ensures.prepared rank) c.in_ok-form.ensures.rows marked in
    rw (c.in_ok-rows.ensures, c.deref.ensures.value, c.in_ok-form.ensures.columns) h
