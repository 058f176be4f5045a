use Rattle.std.proofs.Common.{List, ap, arith, false, get_or, length, subst, sym, true, ℕ, ◌<◌, ◌∙◌, ◌≡◌}
use Rattle.std.proofs.lemmas.List.{length-replicate, length-set, take_all}
use Rattle.term_lists.proofs.Scaling.{Each_at}
use Rattle.row_matrix.specs.Rows.{RowShown, first_column}
use Rattle.dense_reduction.proofs.Reducing.{first_column_read}
use Rattle.f4_job.specs.Flags.{AreFlags}
use Rattle.f4_job.proofs.Flagging.{flags_more, flags_none}
use Rattle.f4_job.proofs.flags.flags_of.Goals as goal

abbrev HasColumn : ℕ → RowShown → Type 0
HasColumn columns r = (0 < length r.entries) × (first_column r.entries < columns)

pub loop-row-init : goal.loop-row-init
loop-row-init c = record {
  flags = flags_none c.in_ok-flags.flags.items c.args.columns (c.in_ok-flags.ensures.items_if_clones_equal (λ y e. e));
  len = ap length (c.in_ok-flags.ensures.items_if_clones_equal (λ y e. e)) ∙ length-replicate c.args.columns false;
}

pub bounds-entries-0 : goal.bounds-entries-0
bounds-entries-0 c =
    let h = Each_at (HasColumn c.args.columns) c.args.rows.now c.loop-row.row-index c.row-item.result c.requires c.loop-row-test.true c.row-item.is in
    subst (λ es. 0 < length es) (sym c.entries.ensures) h.0

pub index_mut-requires : goal.index_mut-requires
index_mut-requires c =
    let h = Each_at (HasColumn c.args.columns) c.args.rows.now c.loop-row.row-index c.row-item.result c.requires c.loop-row-test.true c.row-item.is in
    omega (arith, h.1, first_column_read c.entries.result.now, ap first_column c.entries.ensures, c.loop-row.invariant.len)

pub loop-row-preserved : goal.loop-row-preserved
loop-row-preserved c =
    let rows = c.args.rows.now in
    let i = c.loop-row.row-index in
    let x = c.row-item.result in
    let flags = c.loop-row.flags.items in
    let at = (get_or c.entries.result.now 0 (0, 0)).0 in
    let h = Each_at (HasColumn c.args.columns) rows i x c.requires c.loop-row-test.true c.row-item.is in
    let first : at ≡ first_column x.entries = first_column_read c.entries.result.now ∙ ap first_column c.entries.ensures in
    record {
      flags = flags_more rows i x flags at c.loop-row.invariant.flags c.loop-row-test.true c.row-item.is first
          (omega (arith, h.1, first, c.loop-row.invariant.len));
      len = length-set flags at true ∙ c.loop-row.invariant.len;
    }

pub returns-clause-flags : goal.returns-clause-flags
returns-clause-flags c = subst (λ (rs : List RowShown). AreFlags rs c.loop-row.flags.items)
    (take_all c.loop-row.row-index c.args.rows.now (omega (arith, c.loop-row-test.false))) c.loop-row.invariant.flags
