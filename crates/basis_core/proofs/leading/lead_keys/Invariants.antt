use Rattle.std.proofs.Common.{◌≡◌, ◌≤◌}
use Rattle.formal_sums.specs.FormalSums.{Each}
use Rattle.term_lists.specs.Vectors.{IsMonomialOver}
use Rattle.basis_core.proofs.KnownByLeads.{keys_to}
use Rattle.basis_core.proofs.leading.lead_keys.Given as goal

-- the keys of the members so far
abbrev pub invariant-loop-index : goal.invariant-loop-index
invariant-loop-index l = record {
  later : l.first ≤ l.index;
  weighed : Each (λ k. IsMonomialOver l.members.shared.ring k.monomial) l.keys.items;
  keys : l.keys.items ≡ keys_to l.members.list l.first l.index;
}
