use Rattle.std.proofs.Common.{ap, sym, ◌∙◌}
use Rattle.std.specs.Prelude.{is_some}
use Rattle.script_parse.proofs.Testing.{variable_no_value}
use Rattle.script_parse.proofs.checks.is_no_value.Goals as goal

pub returns-then-is_some : goal.returns-then-is_some
returns-then-is_some c = variable_no_value c.args.vars.now c.args.names.now c.args.text.now c.args.apart c.requires c.if-apart.true (ap is_some (sym c.place.ensures) ∙ sym c.is_some.ensures ∙ c.if-is_some.true)
