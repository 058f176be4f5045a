use Rattle.std.proofs.Common.{length, ◌≡◌}
use Rattle.basis_core.specs.Beginning.{HaveMade}
use Rattle.basis_core.proofs.beginning.make_generators.Given as goal

abbrev pub invariant-loop-number : goal.invariant-loop-number
invariant-loop-number l = record {
  shared : l.members.shared ≡ l.fn.members.shared;
  count : l.count ≡ length l.fn.members.shared.generators;
  made : HaveMade l.fn.members.shared l.number l.members.list;
}
