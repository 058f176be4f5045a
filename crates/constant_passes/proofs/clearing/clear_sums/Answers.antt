use Rattle.std.proofs.Common.{ap, arith, sym, ◌%◌, ◌-◌, ◌<◌, ◌∙◌}
use Rattle.formal_sums.specs.FormalSums.{IsSame}
use Rattle.minimal_laws.specs.Cancellation.{cleared}
use Rattle.term_lists.specs.Rings.{variables}
use Rattle.constant_rows.specs.Rows.{AddsConstants, entry_constants, row_constants}
use Rattle.column_passes.proofs.Clearings.{on_ok}
use Rattle.constant_passes.proofs.Clearings.{row_clear, row_cleared}
use Rattle.constant_passes.proofs.clearing.clear_sums.Goals as goal

pub returns-then-residue-eq0-clause-sum : goal.returns-then-residue-eq0-clause-sum
returns-then-residue-eq0-clause-sum c =
    let ring = c.args.ring.now in
    let s = c.args.step.now in
    row_clear ring.modulus.value s.row s.inverse (entry_constants (variables ring) s.column.entries.items) c.args.rows.now.sums.items
    (sym c.residue_at-residue.ensures.value ∙ c.if-residue-eq0.true)

pub returns-clause-sum : goal.returns-clause-sum
returns-clause-sum c =
    let ring = c.args.ring.now in
    let p = ring.modulus.value in
    let n = variables ring in
    let above : 1 < p = (c.lawful_setting.ensures 0).domain.above_one in
    let s = c.args.step.now in
    let W = entry_constants n s.column.entries.items in
    let old = c.args.rows.now.sums.items in
    let new = c.add_multiple.new.rows.sums.items in
    let f = c.neg-factor.result in
    on_ok c.add_multiple.result (AddsConstants p f s.column.entries.items old new)
    (IsSame p (row_constants n 0 new) (cleared p s.row s.inverse W (row_constants n 0 old)))
    (λ h. row_cleared p s.row s.inverse W old c.residue_at-residue.result f (row_constants n 0 new) (omega (arith, above)) c.residue_at-residue.ensures.value
    (c.neg-factor.ensures.value ∙ ap (λ z. (p - z) % p) c.mul.ensures.value) (h n))
    c.add_multiple.ensures.adds
