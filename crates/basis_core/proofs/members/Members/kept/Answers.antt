use Rattle.std.proofs.Common.{subst}
use Rattle.std.specs.Arc.{arc_value}
use Rattle.formal_sums.specs.FormalSums.{Each}
use Rattle.basis_core.proofs.Handles.{shared_by}
use Rattle.basis_core.proofs.Tracking.{members_tracked}
use Rattle.basis_core.specs.Members.{IsMemberShown, MembersShown, shared_of}
use Rattle.basis_core.proofs.members.Members.kept.Goals as goal

pub returns : goal.returns
returns c =
    subst (λ (l : MembersShown). Each (IsMemberShown l.shared) l.list) c.self.view_is
    (members_tracked (shared_of (arc_value c.self.inside.shared)) (shared_by c.self.inside.handles.items) c.self.invariant)
