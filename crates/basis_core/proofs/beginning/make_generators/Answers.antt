use Rattle.std.proofs.Common.{subst, sym, ◌+◌, ◌∙◌}
use Rattle.basis_core.specs.Beginning.{HaveMade}
use Rattle.basis_core.specs.Members.{Shared}
use Rattle.basis_core.proofs.beginning.make_generators.Goals as goal

pub make_generator-requires-clause-makes : goal.make_generator-requires-clause-makes
make_generator-requires-clause-makes c =
    subst (λ (x : Shared). HaveMade x c.loop-number.number c.loop-number.members.list) (sym c.loop-number.invariant.shared) c.loop-number.invariant.made

pub loop-number-preserved : goal.loop-number-preserved
loop-number-preserved c = record {
  shared = c.make_generator.ensures.shared ∙ c.loop-number.invariant.shared;
  count = c.loop-number.invariant.count;
  made = subst (λ (x : Shared). HaveMade x (c.loop-number.number + 1) c.make_generator.new.members.list) c.loop-number.invariant.shared c.in-Ok.ensures.makes;
}
