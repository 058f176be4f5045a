use Rattle.std.proofs.Common.{ap, arith, length, subst, subst₂, sym, ◌∙◌, ◌≡◌}
use Rattle.row_matrix.specs.Rows.{AreEntries}
use Rattle.dense_reduction.proofs.Adding.{adds_none}
use Rattle.dense_reduction.proofs.Lanes.{written_back}
use Rattle.dense_reduction.specs.Dense.{AddsMultiple, IsDense}
use Rattle.dense_reduction.proofs.reduction.add_sources.Goals as goal

pub add_multiple-requires-clause-small : goal.add_multiple-requires-clause-small
add_multiple-requires-clause-small c = subst (IsDense c.args.limit) (sym c.as_mut_slice.ensures.value) c.requires.small

pub add_multiple-requires-clause-entries : goal.add_multiple-requires-clause-entries
add_multiple-requires-clause-entries c =
    (0, subst₂ (AreEntries c.args.modulus.now.value 0) (sym (ap length c.as_mut_slice.ensures.value)) (sym c.sources.ensures) c.requires.entries)

pub returns-then-factor-eq0-clause-adds : goal.returns-then-factor-eq0-clause-adds
returns-then-factor-eq0-clause-adds c =
    adds_none c.args.modulus.now.value c.args.factor c.args.row.now.sources c.args.sources.now.items c.if-factor-eq0.true

pub returns-clause-adds : goal.returns-clause-adds
returns-clause-adds c =
    let p = c.args.modulus.now.value in
    let old = c.args.sources.now in
    let new = c.add_multiple.new.acc in
    let value = c.as_mut_slice.ensures.value in
    let count : length new ≡ length old.items = c.add_multiple.ensures.adds.count ∙ ap length value in
    let n : old.len ≡ length new = omega (arith, count, c.as_mut_slice.ensures.len, ap length value) in
    subst (AddsMultiple p c.args.factor c.args.row.now.sources old.items) (sym (written_back old.len new old.items n))
    (subst₂ (λ xs ys. AddsMultiple p c.args.factor xs ys new) c.sources.ensures value c.add_multiple.ensures.adds)

pub returns-clause-small : goal.returns-clause-small
returns-clause-small c =
    let old = c.args.sources.now in
    let new = c.add_multiple.new.acc in
    let value = c.as_mut_slice.ensures.value in
    let count : length new ≡ length old.items = c.add_multiple.ensures.adds.count ∙ ap length value in
    let n : old.len ≡ length new = omega (arith, count, c.as_mut_slice.ensures.len, ap length value) in
    subst (IsDense c.add_multiple.result) (sym (written_back old.len new old.items n)) c.add_multiple.ensures.small

pub add_multiple-requires-clause-factor : goal.add_multiple-requires-clause-factor
add_multiple-requires-clause-factor c = c.requires.factor

pub add_multiple-requires-clause-limit : goal.add_multiple-requires-clause-limit
add_multiple-requires-clause-limit c = c.requires.limit
