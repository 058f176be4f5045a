use Rattle.std.proofs.Common.{drop, max, ◌≡◌}
use Rattle.session_values.specs.Texts.{greatest_degree}
use Rattle.session_values.proofs.sizes.greatest_degree.Given as goal

abbrev pub invariant-loop-v : goal.invariant-loop-v
invariant-loop-v l = max l.greatest (greatest_degree (drop l.v-index l.list)) ≡ greatest_degree l.list
