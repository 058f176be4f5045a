use Rattle.std.proofs.Common.{ap, arith, length, refl, sym, ◌∙◌}
use Rattle.std.proofs.lemmas.Bool.{false≢true}
use Rattle.formal_sums.specs.FormalSums.{Key}
use Rattle.bases.specs.Leads.{leads}
use Rattle.pair_updates.proofs.CriterionTests.{join_is, not_true}
use Rattle.pair_updates.proofs.RowMasks.{divisor_row, moved, row_divisor}
use Rattle.pair_updates.specs.Leads.{sums_shown}
use Rattle.pair_updates.proofs.criteria.divides_at_position.Goals as goal

pub returns-then-not-divides_rows : goal.returns-then-not-divides_rows
returns-then-not-divides_rows c =
    let G = sums_shown c.args.leads.now in (
      (λ e. absurd (false≢true e)),
      (λ d. absurd (not_true _ c.if-not-divides_rows.true (c.divides_rows.ensures.1 (λ v lt.
          moved _ _ _ _ _ _ v c.row.ensures c.row-2.ensures c.row-3.ensures
          (divisor_row 16 (leads G c.args.k).1 (leads G c.args.i).1 (leads G c.args.j).1 (d.0, ap (λ (z : Key _). z.1) d.1) v lt))))),
    )

pub returns-then-variables-le16 : goal.returns-then-variables-le16
returns-then-variables-le16 c =
    let m = c.args.leads.now in
    let G = sums_shown m in (
      (λ e.
          let d = row_divisor m.variables 16 (leads G c.args.k).1 (leads G c.args.i).1 (leads G c.args.j).1
          (omega (arith, c.at-lead.ensures.variables, c.variables.ensures, c.if-variables-le16.true))
          (λ v lt. moved _ _ _ _ _ _ v (sym c.row.ensures) (sym c.row-2.ensures) (sym c.row-3.ensures)
          (c.divides_rows.ensures.0 c.if-not-divides_rows.false v lt)) in
          (d.0, λ t. (c.requires.position t, d.1 t))),
      (λ d. refl),
    )

pub returns : goal.returns
returns c =
    let m = c.args.leads.now in
    let G = sums_shown m in
    let position = ap (λ (z : Key _). z.0) c.at-lead.ensures.lead ∙ c.requires.position ∙ sym (ap (λ (z : Key _). z.0) c.at.ensures.lead) in
    join_is m.variables (length c.at-lead.result.now.monomial.exponents) c.at-lead.result.now c.at.result.now c.at-2.result.now (leads G c.args.k)
    (leads G c.args.i) (leads G c.args.j) c.divides_common.result
    c.at-lead.ensures.variables c.at-lead.ensures.lead c.at.ensures.lead c.at-2.ensures.lead position c.divides_common.ensures
