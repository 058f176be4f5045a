use Rattle.std.proofs.Common.{◌≡◌, drop, map}
use Rattle.std.specs.List.{list_all}
use Rattle.std.specs.Prelude.{string_bytes}
use Rattle.script_parse.specs.Tests.{is_no_value}
use Rattle.script_parse.proofs.checks.variables_apart.Given as goal

abbrev pub invariant-loop-name : goal.invariant-loop-name
invariant-loop-name l = list_all (is_no_value l.names) (map string_bytes (drop l.name-index l.all)) ≡ list_all (is_no_value l.names) l.vars
