use Rattle.std.proofs.Common.{arith, get_or, length, subst, sym, ◌<◌, ◌≡◌}
use Rattle.std.proofs.lemmas.List.{length-map}
use Rattle.std.specs.Arc.{arc_value}
use Rattle.basis_core.proofs.Handles.{Handle, shared_at, shared_by}
use Rattle.basis_core.proofs.Tracking.{member_over}
use Rattle.basis_core.specs.Members.{IsRunMember, MembersShown, MemberShown, shared_of}
use Rattle.basis_core.proofs.members.Members.get.Goals as goal

pub returns : goal.returns
returns c =
    let hs = c.self.inside.handles.items in
    let i = c.args.index in
    let item : Handle = c.index.result.now in
    let within : i < length (shared_by hs) = subst (λ (s : MembersShown). i < length s.list) (sym c.self.view_is) c.requires in
    let at : arc_value item ≡ get_or (shared_by hs) i (arc_value item) =
    shared_at hs i item (omega (arith, within, length-map hs (λ (h : Handle). arc_value h))) c.index.ensures in
    record {
      over = subst (λ (m : MemberShown). IsRunMember c.args.self.now.shared i m) (sym c.deref.ensures)
          (subst (λ (s : MembersShown). IsRunMember s.shared i (arc_value item)) c.self.view_is
          (member_over (shared_of (arc_value c.self.inside.shared)) (shared_by hs) i (arc_value item) c.self.invariant within at));
      terms = subst (λ (m : MemberShown). m ≡ get_or c.args.self.now.list i m) (sym c.deref.ensures)
          (subst (λ (s : MembersShown). arc_value item ≡ get_or s.list i (arc_value item)) c.self.view_is at);
    }
