use Rattle.std.proofs.Common.{List, ap, subst, sym, take, ◌∙◌, ◌≡◌}
use Rattle.std.proofs.lemmas.List.{take-map}
use Rattle.std.specs.Arc.{arc_value}
use Rattle.basis_core.specs.Members.{AreRunMembers, Shared, MemberShown, shared_of}
use Rattle.basis_core.proofs.Handles.{Handle, shared_by}
use Rattle.basis_core.proofs.Tracking.{members_front}
use Rattle.basis_core.proofs.members.Members.truncate.Goals as goal

pub invariant_of-self : goal.invariant_of-self
invariant_of-self c =
    let shared : Shared = shared_of (arc_value c.self.inside.shared) in
    let list : List MemberShown = shared_by c.self.inside.handles.items in
    let front : take c.args.count list ≡ shared_by c.truncate.new.self.items =
    take-map (λ (h : Handle). arc_value h) c.args.count c.self.inside.handles.items ∙ ap shared_by (sym c.truncate.ensures.items) in
    subst (AreRunMembers shared) front (members_front shared c.args.count list c.self.invariant)

pub returns-clause-list : goal.returns-clause-list
returns-clause-list c =
    ap shared_by c.truncate.ensures.items
    ∙ sym (take-map (λ (h : Handle). arc_value h) c.args.count c.self.inside.handles.items)
    ∙ ap (λ s. take c.args.count s.list) c.self.view_is
