use Rattle.std.proofs.Common.{ap, subst, ◌++◌, ◌∙◌}
use Rattle.script_parse.specs.Tests.{IsWorth, moved_to}
use Rattle.script_parse.proofs.Working.{degree_by, numerals_by, worth_by}
use Rattle.script_parse.proofs.values.push_entry.Goals as goal

pub returns : goal.returns
returns c =
    let ring = c.args.ring.now in
    let line = c.args.line.now in
    let u = c.in_ok-value.value in
    let made = c.in_ok-value.ensures in
    let worth : IsWorth ring line c.deref.result.now u = record { vector = made.vector; polynomial = made.polynomial; value = λ x e. made.value x e } in (
      u,
      c.in_ok-append.ensures.items ∙ ap (λ l. c.args.all.now.items ++ l) (c.move_terms.ensures ∙ ap (moved_to c.args.position) c.into_terms-terms.ensures),
      subst (λ l. IsWorth ring line l u) c.deref.ensures.value worth,
    )

pub polynomial_value-requires-clause-worth : goal.polynomial_value-requires-clause-worth
polynomial_value-requires-clause-worth c = worth_by c.args.ring.now c.args.line.now c.args.steps.now c.deref.result.now c.deref.ensures.value c.requires

pub polynomial_value-requires-clause-degree : goal.polynomial_value-requires-clause-degree
polynomial_value-requires-clause-degree c = degree_by c.args.ring.now c.args.line.now c.args.steps.now c.deref.result.now c.deref.ensures.value c.requires

pub polynomial_value-requires-clause-numerals : goal.polynomial_value-requires-clause-numerals
polynomial_value-requires-clause-numerals c = numerals_by c.args.ring.now c.args.line.now c.args.steps.now c.deref.result.now c.deref.ensures.value c.requires
