use Rattle.std.proofs.Common.{drop, ◌+◌, ◌≡◌, ◌≤◌}
use Rattle.session_values.specs.Texts.{degree_count}
use Rattle.session_values.proofs.sizes.degree_count.Given as goal

abbrev pub invariant-loop-v : goal.invariant-loop-v
invariant-loop-v l = (l.count + degree_count (drop l.v-index l.list) l.degree ≡ degree_count l.list l.degree) × (l.count ≤ l.v-index)
