use Rattle.std.proofs.Common.{length, refl, ◌<◌}
use Rattle.formal_sums.proofs.Combining.{Each_map}
use Rattle.pivot_table.specs.Law.{told}
use Rattle.row_matrix.specs.Rows.{Entry}
use Rattle.dense_reduction.proofs.Entries.{entries_within}
use Rattle.dense_reduction.specs.Rests.{rows_left}
use Rattle.row_reduce.proofs.Lowered.{itself_lowered}
use Rattle.row_reduce.proofs.tails.reduced_row.Goals as goal

pub meets_own-requires : goal.meets_own-requires
meets_own-requires c =
    let p = c.args.shared.modulus.now.value in
    let columns = length c.args.own.now.pivots.items in
    Each_map (λ (e : Entry). (e.0 < columns) × (e.1 < p)) (λ (e : Entry). e.0 < columns) c.args.row.entries (λ e h. h.0)
    (entries_within p 0 columns c.args.row.entries c.requires.row.entries)

pub returns-clause-reduced : goal.returns-clause-reduced
returns-clause-reduced c =
    let own = c.args.own.now in (
      refl,
      itself_lowered c.args.shared.modulus.now.value (length own.pivots.items) c.args.shared.inputs c.args.shared.rows.now (rows_left own.left.items)
          (told c.args.seat.now) own.pivots.items c.args.row c.requires.own c.requires.row c.requires.free,
    )
