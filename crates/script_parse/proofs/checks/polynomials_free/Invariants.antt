use Rattle.std.proofs.Common.{◌≡◌, drop}
use Rattle.std.specs.List.{list_all}
use Rattle.script_parse.specs.Tests.{is_no_value, names_pass}
use Rattle.script_parse.proofs.checks.polynomials_free.Given as goal

abbrev pub invariant-loop-steps : goal.invariant-loop-steps
invariant-loop-steps l = list_all (λ v. names_pass (is_no_value l.names) l.line v.items) (drop l.steps-index l.polynomials) ≡ list_all (λ v. names_pass (is_no_value l.names) l.line v.items) l.polynomials
