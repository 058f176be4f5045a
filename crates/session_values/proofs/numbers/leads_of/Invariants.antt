use Rattle.std.proofs.Common.{drop, ◌++◌, ◌≡◌}
use Rattle.session_values.specs.Numbers.{leads_of}
use Rattle.session_values.proofs.numbers.leads_of.Given as goal

abbrev pub invariant-loop-v : goal.invariant-loop-v
invariant-loop-v l = l.keys.items ++ leads_of (drop l.v-index l.list) ≡ leads_of l.list
