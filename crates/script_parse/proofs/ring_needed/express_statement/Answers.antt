use Rattle.std.proofs.Common.{subst}
use Rattle.script_parse.specs.Tests.{IsWorth}
use Rattle.script_parse.proofs.Stating.{express_says}
use Rattle.script_parse.proofs.ring_needed.express_statement.Goals as goal

pub returns-in-Ok-list_value : goal.returns-in-Ok-list_value
returns-in-Ok-list_value c =
    let worth : IsWorth c.args.ring.now c.args.line.now c.deref.result.now c.in-Ok.image = record { vector = c.in-Ok.ensures.vector; polynomial = c.in-Ok.ensures.polynomial; value = λ x e. c.in-Ok.ensures.value x e } in
    express_says c.args.ring.now c.args.line.now c.args.polynomials.now c.in-Some.others.now c.in-Some.steps.now c.in-Ok.image c.in-Ok-list_value.images c.in-Some.ensures.cases.0 c.requires.workable
    (subst (λ l. IsWorth c.args.ring.now c.args.line.now l c.in-Ok.image) c.deref.ensures.value worth) c.in-Ok-list_value.ensures
