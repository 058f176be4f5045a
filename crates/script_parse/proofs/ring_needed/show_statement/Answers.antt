use Rattle.std.proofs.Common.{subst}
use Rattle.script_parse.specs.Tests.{IsWorth}
use Rattle.script_parse.proofs.Stating.{show_says}
use Rattle.script_parse.proofs.ring_needed.show_statement.Goals as goal

pub returns-in-Ok : goal.returns-in-Ok
returns-in-Ok c =
    let worth : IsWorth c.args.ring.now c.args.line.now c.deref.result.now c.in-Ok.value = record { vector = c.in-Ok.ensures.vector; polynomial = c.in-Ok.ensures.polynomial; value = λ x e. c.in-Ok.ensures.value x e } in
    show_says c.args.ring.now c.args.line.now c.args.polynomials.now _ c.in-Some.steps.now c.in-Ok.value c.in-Some.ensures.cases.0 c.requires.workable
    (subst (λ l. IsWorth c.args.ring.now c.args.line.now l c.in-Ok.value) c.deref.ensures.value worth)
