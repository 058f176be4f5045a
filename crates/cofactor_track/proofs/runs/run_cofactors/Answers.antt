use Rattle.std.proofs.Common.{[], ap, arith, length, subst, sym, take, ◌++◌, ◌∙◌, ◌∷◌, ◌≡◌}
use Rattle.std.proofs.lemmas.List.{length-take, take_all}
use Rattle.formal_sums.specs.FormalSums.{Each}
use Rattle.term_lists.proofs.Scaling.{take_item}
use Rattle.member_products.specs.Generators.{IsRanked}
use Rattle.member_products.specs.Members.{AreCofactors}
use Rattle.member_products.proofs.Multiplied.{cofactors_none, member_there, stops_at}
use Rattle.basis_core.specs.Members.{IsRunMember, Shared, shared_of}
use Rattle.cofactor_track.proofs.runs.run_cofactors.Goals as goal

pub loop-i-init : goal.loop-i-init
loop-i-init c = record {
  vectors = rw c.new-list.ensures tt;
  cofactors = rw c.new-list.ensures (cofactors_none c.args.members.now.shared.ring);
}

pub push_cofactors-requires-clause-list : goal.push_cofactors-requires-clause-list
push_cofactors-requires-clause-list c =
    let q : shared_of c.deref.result.now ≡ c.args.members.now.shared = ap shared_of c.deref.ensures ∙ c.shared.ensures in
    subst (λ (z : Shared). Each (λ v. IsRanked z.ring (length z.generators) v) c.loop-i.list) (sym q) c.loop-i.invariant.vectors

pub push_cofactors-requires-clause-member : goal.push_cofactors-requires-clause-member
push_cofactors-requires-clause-member c =
    let s = c.args.members.now.shared in
    let m = c.get.result.now in
    let q : shared_of c.deref.result.now ≡ s = ap shared_of c.deref.ensures ∙ c.shared.ensures in
    let before = length-take c.loop-i.i c.args.members.now.list in
    let e : c.loop-i.i ≡ length c.loop-i.list = omega (arith, c.loop-i.invariant.cofactors.number, before, c.loop-i-test.true, c.len-i-end.ensures) in
    subst (λ (z : Shared). IsRunMember z (length c.loop-i.list) m) (sym q) (subst (λ k. IsRunMember s k m) e c.get.ensures.over)

pub returns-in-Err-clause-stop : goal.returns-in-Err-clause-stop
returns-in-Err-clause-stop c =
    let ms = c.args.members.now.list in
    let i = c.loop-i.i in
    let m = c.get.result.now in
    stops_at c.args.members.now.shared.ring ms i m c.loop-i.list c.in-Err.stop
    (member_there ms i m (omega (arith, c.loop-i-test.true, c.len-i-end.ensures)) c.get.ensures.terms)
    c.loop-i.invariant.cofactors c.in-Err.ensures.stop

pub loop-i-preserved : goal.loop-i-preserved
loop-i-preserved c =
    let ms = c.args.members.now.list in
    let i = c.loop-i.i in
    let m = c.get.result.now in
    let q : shared_of c.deref.result.now ≡ c.args.members.now.shared = ap shared_of c.deref.ensures ∙ c.shared.ensures in
    record {
      vectors = subst (λ (z : Shared). Each (λ v. IsRanked z.ring (length z.generators) v) c.push_cofactors.new.list) q c.push_cofactors.ensures.vectors;
      cofactors = subst (λ l. AreCofactors c.args.members.now.shared.ring l c.push_cofactors.new.list)
          (sym (take_item ms i m (omega (arith, c.loop-i-test.true, c.len-i-end.ensures)) c.get.ensures.terms))
          (subst (λ (z : Shared). AreCofactors z.ring (take i ms ++ (m ∷ [])) c.push_cofactors.new.list) q
          (c.in_default.ensures.cofactors (take i ms)
          (subst (λ (z : Shared). AreCofactors z.ring (take i ms) c.loop-i.list) (sym q) c.loop-i.invariant.cofactors)));
    }

pub returns-clause-cofactors : goal.returns-clause-cofactors
returns-clause-cofactors c =
    let all = take_all c.loop-i.i c.args.members.now.list (omega (arith, c.loop-i-test.false, c.len-i-end.ensures, c.loop-i.auto.i-end)) in
    subst (λ l. AreCofactors c.args.members.now.shared.ring l c.loop-i.list) all c.loop-i.invariant.cofactors
