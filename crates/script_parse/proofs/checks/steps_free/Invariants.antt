use Rattle.std.proofs.Common.{◌≡◌, drop}
use Rattle.script_parse.specs.Tests.{is_no_value, names_pass}
use Rattle.script_parse.proofs.checks.steps_free.Given as goal

abbrev pub invariant-loop-step : goal.invariant-loop-step
invariant-loop-step l = names_pass (is_no_value l.names) l.line (drop l.step-index l.steps) ≡ names_pass (is_no_value l.names) l.line l.steps
