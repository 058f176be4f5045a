use Rattle.std.proofs.Common.{ap, arith, length, ◌<◌}
use Rattle.std.proofs.lemmas.List.{length-map}
use Rattle.term_lists.proofs.Parts.{Each_member}
use Rattle.row_matrix.specs.Rows.{RowShown, first_column}
use Rattle.row_reduce.proofs.helping.claim_each.Goals as goal

pub claim-requires-clause-row : goal.claim-requires-clause-row
claim-requires-clause-row c =
    omega (
      arith,
      Each_member (λ m. m < length c.args.shared.rows.now) c.args.free.now c.loop-number.number-index 0 c.requires.free c.loop-number-test.true,
      ap length c.requires.known,
      length-map c.args.shared.rows.now (λ (r : RowShown). first_column r.entries),
    )
