use Rattle.std.proofs.Common.{length, reverse, ◌<◌, ◌∷◌}
use Rattle.term_lists.specs.Rings.{variables}
use Rattle.basis_core.specs.Chains.{IsChainTo}
use Rattle.basis_core.specs.Rows.{vectors_in}
use Rattle.basis_core.proofs.trails.trace_to_pair.Given as goal
use Rattle.module_vectors.specs.Trails.{kept_at}

-- backwards, with the product at hand, it is a chain from there
abbrev pub invariant-loop-pair : goal.invariant-loop-pair
invariant-loop-pair l = record {
  within : l.at < length l.all;
  chain : IsChainTo (variables l.members.shared.ring) l.members.shared.ring.weights (vectors_in l.members.list)
      l.all (kept_at l.all l.at) (kept_at l.all l.at ∷ reverse l.chain.items);
}

abbrev pub decreases-loop-pair : goal.decreases-loop-pair
decreases-loop-pair l = l.at
