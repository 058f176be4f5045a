use Rattle.std.proofs.Common.{arith, length, subst, sym, take, ◌+◌, ◌≡◌}
use Rattle.std.proofs.lemmas.List.{length-take, take_all}
use Rattle.term_lists.proofs.Scaling.{take_item}
use Rattle.member_products.proofs.Multiplied.{cofactors_none, member_at, member_there, stops_at}
use Rattle.member_products.proofs.multiplying.cofactors.Goals as goal
use Rattle.member_products.specs.Members.{AreCofactors, IsMemberOver}

pub loop-member-init : goal.loop-member-init
loop-member-init c = record {
  vectors = rw c.new-list.ensures tt;
  cofactors = rw c.new-list.ensures (cofactors_none c.args.shared.now.ring);
}

pub push_cofactors-requires-clause-member : goal.push_cofactors-requires-clause-member
push_cofactors-requires-clause-member c =
    let shared = c.args.shared.now in
    let i = c.loop-member.member-index in
    let at = member_at shared.ring shared.rank (length shared.generators) 0 c.args.members.now i c.member-item.result c.requires c.loop-member-test.true c.member-item.is in
    let e : 0 + i ≡ length c.loop-member.list = omega (arith, c.loop-member.invariant.cofactors.number, length-take i c.args.members.now, c.loop-member-test.true) in
    subst (λ k. IsMemberOver shared.ring shared.rank (length shared.generators) k c.member-item.result) e at

pub returns-in-Err-clause-stop : goal.returns-in-Err-clause-stop
returns-in-Err-clause-stop c =
    stops_at c.args.shared.now.ring c.args.members.now c.loop-member.member-index c.member-item.result c.loop-member.list c.in-Err.stop
    (member_there c.args.members.now c.loop-member.member-index c.member-item.result c.loop-member-test.true c.member-item.is)
    c.loop-member.invariant.cofactors c.in-Err.ensures.stop

pub loop-member-preserved : goal.loop-member-preserved
loop-member-preserved c = record {
  vectors = c.push_cofactors.ensures.vectors;
  cofactors = subst (λ ms. AreCofactors c.args.shared.now.ring ms c.push_cofactors.new.list)
      (sym (take_item c.args.members.now c.loop-member.member-index c.member-item.result c.loop-member-test.true c.member-item.is))
      (c.in_default.ensures.cofactors (take c.loop-member.member-index c.args.members.now) c.loop-member.invariant.cofactors);
}

pub returns-clause-cofactors : goal.returns-clause-cofactors
returns-clause-cofactors c =
    subst (λ ms. AreCofactors c.args.shared.now.ring ms c.loop-member.list) (take_all c.loop-member.member-index c.args.members.now (omega (arith, c.loop-member-test.false))) c.loop-member.invariant.cofactors
