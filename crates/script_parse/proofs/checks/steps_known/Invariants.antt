use Rattle.std.proofs.Common.{◌≡◌, drop}
use Rattle.script_parse.specs.Tests.{is_known, names_pass}
use Rattle.script_parse.proofs.checks.steps_known.Given as goal

abbrev pub invariant-loop-step : goal.invariant-loop-step
invariant-loop-step l = names_pass (is_known l.vars l.names) l.line (drop l.step-index l.steps) ≡ names_pass (is_known l.vars l.names) l.line l.steps
