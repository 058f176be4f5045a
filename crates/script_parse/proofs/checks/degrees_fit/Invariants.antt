use Rattle.std.proofs.Common.{◌≡◌, drop}
use Rattle.std.specs.List.{list_all}
use Rattle.script_parse.specs.Tests.{low_degree}
use Rattle.script_parse.proofs.checks.degrees_fit.Given as goal

abbrev pub invariant-loop-steps : goal.invariant-loop-steps
invariant-loop-steps l = list_all (λ v. low_degree l.ring l.line v.items) (drop l.steps-index l.polynomials) ≡ list_all (λ v. low_degree l.ring l.line v.items) l.polynomials
