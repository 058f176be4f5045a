use Rattle.std.proofs.Common.{[], ap, arith, get_or, length, length-append, rules, subst, subst₂, sym, ◌<◌, ◌∙◌, ◌∷◌}
use Rattle.basis_core.specs.Rows.{vectors_in}
use Rattle.cofactor_track.specs.Members.{IsCombined}
use Rattle.cofactor_track.proofs.RunMembers.{HaveCofactors, all_cofactors, all_vectors, combined_at, next_cofactors, next_there, none_yet, one_more}
use Rattle.cofactor_track.proofs.runs.with_cofactors.Goals as goal

pub loop-cof-init : goal.loop-cof-init
loop-cof-init c =
    let e = c.into_iter-cof-iterator.ensures.into_iter_gives.0 ∙ c.into_vec-cof-items.ensures in
    record {
      long = c.in_ok-list.ensures.len ∙ ap length (sym c.in_ok-list.ensures.items);
      room = omega (arith, c.in_ok-list.ensures.len, c.in_ok-list.ensures.capacity, c.len.ensures, ap length e);
      had = none_yet c.in_ok-list.list.items c.into_iter-cof-iterator.result.rest.items c.in_ok-list.ensures.items e;
    }

pub run_member-requires-clause-index : goal.run_member-requires-clause-index
run_member-requires-clause-index c =
    let m = c.args.members.now in
    let h = subst (HaveCofactors m.shared m.list c.args.cofactors c.loop-cof.list.items) c.in-Some.ensures.steps.0 c.loop-cof.invariant.had in
    omega (arith, c.len-in-loop-cof.ensures, c.loop-cof.invariant.long, c.requires.cofactors.number, next_there h)

pub run_member-requires-clause-combined : goal.run_member-requires-clause-combined
run_member-requires-clause-combined c =
    let s = c.args.members.now.shared in
    let ms = c.args.members.now.list in
    let cofs = c.args.cofactors in
    let k = length c.loop-cof.list.items in
    let h = subst (HaveCofactors s ms cofs c.loop-cof.list.items) c.in-Some.ensures.steps.0 c.loop-cof.invariant.had in
    let within : length c.loop-cof.list.items < length c.args.members.now.list = omega (arith, next_there h, c.requires.cofactors.number) in
    subst₂ (λ i a. IsCombined s.ring s.rank s.generators (get_or (vectors_in ms) i []) a)
    (sym (c.len-in-loop-cof.ensures ∙ c.loop-cof.invariant.long)) (next_cofactors h)
    (combined_at s ms cofs k c.kept.ensures c.requires.vectors c.requires.combined c.requires.cofactors within)

pub push_reserved-requires : goal.push_reserved-requires
push_reserved-requires c = omega (arith, c.loop-cof.invariant.room, ap length c.in-Some.ensures.steps.0)

pub loop-cof-preserved : goal.loop-cof-preserved
loop-cof-preserved c =
    let s = c.args.members.now.shared in
    let ms = c.args.members.now.list in
    let was = c.loop-cof in
    let m = c.in_ok-member.member in
    let pushed = c.push_reserved.ensures in
    let h = subst (HaveCofactors s ms c.args.cofactors was.list.items) c.in-Some.ensures.steps.0 was.invariant.had in
    let vector = c.in_ok-member.ensures.vector ∙ ap (λ i. get_or (vectors_in ms) i []) (c.len-in-loop-cof.ensures ∙ was.invariant.long) in
    let within : length c.loop-cof.list.items < length c.args.members.now.list = omega (arith, next_there h, c.requires.cofactors.number) in
    record {
      long = omega (arith, pushed.len, was.invariant.long, ap length pushed.items, length-append was.list.items (m ∷ []));
      room = omega (arith, pushed.len, pushed.capacity, was.invariant.room, ap length c.in-Some.ensures.steps.0);
      had = one_more h m c.push_reserved.new.self.items pushed.items c.in_ok-member.ensures.shared vector c.in_ok-member.ensures.cofactors within;
    }

pub returns-clause-shared : goal.returns-clause-shared
returns-clause-shared c = c.loop-cof.invariant.had.alike

pub returns-clause-vectors : goal.returns-clause-vectors
returns-clause-vectors c = all_vectors c.loop-cof.invariant.had (search rules) c.requires.cofactors.number

pub returns-clause-cofactors : goal.returns-clause-cofactors
returns-clause-cofactors c = all_cofactors c.loop-cof.invariant.had (search rules)
