use Rattle.std.proofs.Common.{ap}
use Rattle.std.proofs.lemmas.Bool.{false≢true}
use Rattle.formal_sums.specs.FormalSums.{Key}
use Rattle.bases.specs.Leads.{leads}
use Rattle.pair_updates.proofs.CriterionTests.{not_true}
use Rattle.pair_updates.proofs.RowMasks.{divisor_row, moved}
use Rattle.pair_updates.specs.Leads.{sums_shown}
use Rattle.pair_updates.proofs.dropping.leaves_by_row.Goals as goal

pub returns-then-not-divides_rows : goal.returns-then-not-divides_rows
returns-then-not-divides_rows c =
    let G = sums_shown c.args.leads.now in (
      (λ e. absurd (false≢true e)),
      (λ l. absurd (not_true _ c.if-not-divides_rows.true (c.divides_rows.ensures.1 (λ v lt.
          moved _ _ _ _ _ _ v c.requires.row c.row.ensures c.row-2.ensures
          (divisor_row 16 (leads G c.args.h).1 (leads G c.args.i).1 (leads G c.args.j).1 (l.divides.0, ap (λ (z : Key _). z.1) l.divides.1) v lt))))),
    )
