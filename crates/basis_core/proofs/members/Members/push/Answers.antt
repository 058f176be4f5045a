use Rattle.std.proofs.Common.{List, [], ap, length, subst, sym, ◌++◌, ◌∙◌, ◌∷◌, ◌≡◌}
use Rattle.std.proofs.lemmas.List.{map-append}
use Rattle.std.specs.Arc.{arc_value}
use Rattle.basis_core.specs.Members.{AreRunMembers, IsRunMember, MembersShown, Shared, MemberShown, shared_of}
use Rattle.basis_core.proofs.Handles.{Handle, shared_by}
use Rattle.basis_core.proofs.Tracking.{members_more}
use Rattle.basis_core.proofs.members.Members.push.Goals as goal

pub invariant_of-self-2 : goal.invariant_of-self-2
invariant_of-self-2 c =
    let shared : Shared = shared_of (arc_value c.self.inside.shared) in
    let list : List MemberShown = shared_by c.self.inside.handles.items in
    let next : IsRunMember shared (length list) c.args.member =
    subst (λ (s : MembersShown). IsRunMember s.shared (length s.list) c.args.member) (sym c.self.view_is) c.requires in
    let more : list ++ (c.args.member ∷ []) ≡ shared_by c.push.new.self.items =
    ap (λ (m : MemberShown). list ++ (m ∷ [])) (sym c.in_ok-handle.ensures.ok)
    ∙ sym (map-append (λ (h : Handle). arc_value h) c.self.inside.handles.items (c.in_ok-handle.handle ∷ []))
    ∙ ap shared_by (sym c.in_ok-push.ensures.items) in
    subst (AreRunMembers shared) more (members_more shared list c.args.member c.self.invariant next)
