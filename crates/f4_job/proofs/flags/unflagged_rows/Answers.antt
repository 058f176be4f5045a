use Rattle.std.proofs.Common.{List, ap, arith, length, subst, sym, ℕ, ◌++◌, ◌<◌, ◌∙◌}
use Rattle.formal_sums.specs.FormalSums.{Each}
use Rattle.row_matrix.specs.Rows.{Entry, RowShown, first_column}
use Rattle.dense_reduction.proofs.Reducing.{first_column_read}
use Rattle.f4_job.specs.Flags.{unflagged}
use Rattle.f4_job.proofs.flags.unflagged_rows.Goals as goal

abbrev HasColumn : ℕ → RowShown → Type 0
HasColumn columns r = (0 < length r.entries) × (first_column r.entries < columns)

pub loop-row-init : goal.loop-row-init
loop-row-init c = record {
  rows = ap (λ (rs : List RowShown). rs ++ unflagged c.args.flags.now c.from_vec-rest.result.items) c.new-left.ensures.items
      ∙ ap (unflagged c.args.flags.now) c.from_vec-rest.ensures.items;
  good = subst (Each (HasColumn (length c.args.flags.now))) (sym c.from_vec-rest.ensures.items) c.requires;
}

pub bounds-entries-0 : goal.bounds-entries-0
bounds-entries-0 c =
    let good = subst (Each (HasColumn (length c.args.flags.now))) c.in-Some.ensures.items c.loop-row.invariant.good in
    subst (λ (es : List Entry). 0 < length es) (sym c.entries.ensures) good.0.0

pub bounds-flags-entries : goal.bounds-flags-entries
bounds-flags-entries c =
    let good = subst (Each (HasColumn (length c.args.flags.now))) c.in-Some.ensures.items c.loop-row.invariant.good in
    omega (arith, good.0.1, first_column_read c.entries.result.now, ap first_column c.entries.ensures)
