use Rattle.std.specs.Prelude.{Some}
use Rattle.std.proofs.Common.{inr, refl, subst, sym, ◌++◌, ◌∷◌, ◌≡◌, []}
use Rattle.formal_sums.specs.FormalSums.{Each}
use Rattle.column_passes.proofs.Clearings.{on_ok}
use Rattle.column_passes.proofs.Lists.{each_in}
use Rattle.constant_passes.specs.Choosing.{IsColumnChosen, IsLeastEntry}
use Rattle.constant_passes.proofs.Entries.{inverse_is}
use Rattle.constant_passes.proofs.choosing.choose.Goals as goal

pub push_step-requires-clause-other : goal.push_step-requires-clause-other
push_step-requires-clause-other c =
    let least = subst (λ xs. IsLeastEntry xs (Some c.in-Some.found)) c.deref.ensures.value c.in-Some.ensures in
    subst (λ r. Each (λ s. s.row ≡ r → ⊥) c.args.table.now.steps.items) (sym c.from-row.ensures)
    (each_in _ c.args.column.entries.items c.in-Some.found c.requires.free least.0)

pub returns-in-Some-invert-clause-chosen : goal.returns-in-Some-invert-clause-chosen
returns-in-Some-invert-clause-chosen c =
    let ring = c.args.ring.now in
    let column = c.args.column in
    let found = c.in-Some.found in
    let row = c.from-row.result in
    let inverse = c.in-Some-invert.inverse in
    let steps = c.args.table.now.steps.items in
    let new = c.push_step.new.table.steps.items in
    let choices = c.args.choices.now.items in
    let least = subst (λ r. IsLeastEntry column.entries.items (Some (r, found.1))) (sym c.from-row.ensures)
    (subst (λ xs. IsLeastEntry xs (Some found)) c.deref.ensures.value c.in-Some.ensures) in
    let invert = c.in-Some-invert.ensures.value in
    on_ok c.push_step.result (new ≡ steps ++ record { row = row; inverse = inverse; column = column } ∷ [])
    (IsColumnChosen ring c.args.number column steps new choices _)
    (λ e. inr (row, inverse, found.1, least, inverse_is ring.modulus.value found.1 inverse invert.one, invert.below, e, refl)) c.push_step.ensures.steps
