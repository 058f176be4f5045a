use Rattle.std.proofs.Common.{arith, ℕ, ◌+◌, ◌≡◌, ◌≤◌}
use Rattle.map_laws.proofs.GraphMembers.{graph_law}
use Rattle.map_laws.proofs.graph_laws.graphs.Goals as goal

at_least : (n m : ℕ) → m ≡ n + n → n + n ≤ m
at_least n m e = omega arith

pub returns : goal.returns
returns c = λ n m p F L v pos two size f l r. graph_law pos F L (at_least n m two) f v r
