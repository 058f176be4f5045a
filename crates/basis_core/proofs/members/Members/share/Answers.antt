use Rattle.std.proofs.Common.{List, ap, arith, subst, sym, take, ◌∙◌, ◌≡◌}
use Rattle.std.proofs.lemmas.List.{take_all}
use Rattle.basis_core.specs.Members.{AreRunMembers, MembersShown, shared_of}
use Rattle.basis_core.proofs.Handles.{Handle, none_copied, one_copied, shared_by}
use Rattle.basis_core.proofs.members.Members.share.Goals as goal

pub loop-handle-init : goal.loop-handle-init
loop-handle-init c = record {
  copied = none_copied c.deref-handle-items.result.now c.in_ok-handles.handles.items c.in_ok-handles.ensures.items;
  long = c.in_ok-handles.ensures.len;
  room = omega (arith, c.in_ok-handles.ensures.capacity, c.len.ensures, c.deref-handle-items.ensures.len);
}

pub loop-handle-preserved : goal.loop-handle-preserved
loop-handle-preserved c = record {
  copied = one_copied c.deref-handle-items.result.now c.loop-handle.handles.items c.push_reserved.new.self.items c.loop-handle.handle-index
      c.handle-item.result c.in_ok-try_clone.field-0 c.loop-handle-test.true c.handle-item.is c.in_ok-try_clone.ensures c.push_reserved.ensures.items
      c.loop-handle.invariant.copied;
  long = omega (arith, c.push_reserved.ensures.len, c.loop-handle.invariant.long);
  room = omega (arith, c.push_reserved.ensures.capacity, c.loop-handle.invariant.room);
}

pub push_reserved-requires : goal.push_reserved-requires
push_reserved-requires c = omega (arith, c.loop-handle.invariant.long, c.loop-handle.invariant.room, c.loop-handle-test.true)

pub invariant_of-result : goal.invariant_of-result
invariant_of-result c =
    let items : List Handle = c.deref-handle-items.result.now in
    let all : take c.loop-handle.handle-index items ≡ c.self.inside.handles.items =
    take_all c.loop-handle.handle-index items c.loop-handle-test.false ∙ c.deref-handle-items.ensures.value in
    let same : shared_by c.loop-handle.handles.items ≡ shared_by c.self.inside.handles.items = c.loop-handle.invariant.copied.members ∙ ap shared_by all in
    subst (λ (z : MembersShown). AreRunMembers z.shared z.list)
    (λ i. record { shared = shared_of (sym c.in_ok-try_clone-2.ensures i); list = sym same i }) c.self.invariant

pub returns : goal.returns
returns c =
    let items : List Handle = c.deref-handle-items.result.now in
    let all : take c.loop-handle.handle-index items ≡ c.self.inside.handles.items =
    take_all c.loop-handle.handle-index items c.loop-handle-test.false ∙ c.deref-handle-items.ensures.value in
    let same : shared_by c.loop-handle.handles.items ≡ shared_by c.self.inside.handles.items = c.loop-handle.invariant.copied.members ∙ ap shared_by all in
    (λ i. record { shared = shared_of (c.in_ok-try_clone-2.ensures i); list = same i }) ∙ c.self.view_is
