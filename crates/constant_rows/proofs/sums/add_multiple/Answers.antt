use Rattle.std.proofs.Common.{subst}
use Rattle.constant_rows.specs.Rows.{AddsConstants}
use Rattle.constant_rows.proofs.Adding.{on_ok, widened_adds, widened_sums}
use Rattle.constant_rows.proofs.sums.add_multiple.Goals as goal

pub add_entries-requires-clause-sums : goal.add_entries-requires-clause-sums
add_entries-requires-clause-sums c =
    let zeros = c.in_ok-widen.ensures.zeros in
    widened_sums c.args.rows.now.sums.items c.widen.new.sums.items c.args.rows.now.touched.items zeros.0 zeros.1 c.requires.sums

pub returns-clause-adds : goal.returns-clause-adds
returns-clause-adds c =
    let zeros = c.in_ok-widen.ensures.zeros in
    let p = c.args.modulus.now.value in
    let new = c.widen.new.sums.items in
    let after = c.add_entries.new.sums.items in
    on_ok c.add_entries.result (AddsConstants p c.args.factor c.deref.result.now new after)
    (AddsConstants p c.args.factor c.args.constants.now.entries.items c.args.rows.now.sums.items after)
    (λ h. widened_adds c.args.rows.now.sums.items new c.args.rows.now.touched.items zeros.0 zeros.1 p c.args.factor c.args.constants.now.entries.items after
    (subst (λ z. AddsConstants p c.args.factor z new after) c.deref.ensures.value h)) c.add_entries.ensures.adds
