use Rattle.std.proofs.Common.{subst}
use Rattle.basis_core.specs.Members.{AreRunMembers, MembersShown}
use Rattle.basis_core.proofs.members.Members.made.Goals as goal

pub returns : goal.returns
returns c = subst (λ (l : MembersShown). AreRunMembers l.shared l.list) c.self.view_is c.self.invariant
