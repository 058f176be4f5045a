use Rattle.std.proofs.Common.{arith, get_or, length, subst, ◌+◌, ◌<◌}
use Rattle.std.proofs.lemmas.List.{take_all}
use Rattle.minimal_betti.specs.Growing.{AreRead}
use Rattle.minimal_betti.proofs.Reading.{last_step_is, later_entry, read_next, regularity_is}
use Rattle.minimal_betti.proofs.tables.invariants.Goals as goal

pub loop-entry-preserved : goal.loop-entry-preserved
loop-entry-preserved c =
    let entries = c.args.entries.now in
    let rest = c.in_ok-first.rest.now in
    let i = c.loop-entry.entry-index in
    let e = get_or rest i (record { step = 0; degree = 0; count = 0 }) in
    let parts = c.in_ok-first.ensures.cases in
    let lt : i < length rest = omega arith in
    let more = parts.1 in
    read_next entries (i + 1) e c.loop-entry.found c.with_entry-found.result (omega (arith, lt, more))
    (later_entry entries rest c.in_ok-first.first.now i _ parts.0 lt)
    c.loop-entry.invariant c.with_entry-found.ensures.last_step c.with_entry-found.ensures.regularity

pub returns-clause-last_step : goal.returns-clause-last_step
returns-clause-last_step c = λ counts t.
    let more = c.in_ok-first.ensures.cases.1 in
    last_step_is counts c.args.entries.now c.loop-entry.found t
    (subst (λ es. AreRead es c.loop-entry.found) (take_all (c.loop-entry.entry-index + 1) c.args.entries.now (omega (arith, more))) c.loop-entry.invariant)

pub returns-clause-regularity : goal.returns-clause-regularity
returns-clause-regularity c = λ counts t.
    let more = c.in_ok-first.ensures.cases.1 in
    regularity_is counts c.args.entries.now c.loop-entry.found t
    (subst (λ es. AreRead es c.loop-entry.found) (take_all (c.loop-entry.entry-index + 1) c.args.entries.now (omega (arith, more))) c.loop-entry.invariant)
