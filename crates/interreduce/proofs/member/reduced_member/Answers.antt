use Rattle.std.proofs.Common.{[], drop, length, subst, sym, ◌<◌}
use Rattle.term_lists.proofs.Parts.{Each_member}
use Rattle.term_lists.specs.Vectors.{IsVectorOver}
use Rattle.interreduce.specs.Members.{HasDivision, HasReducedTail}
use Rattle.interreduce.proofs.Earlier.{by_list}
use Rattle.interreduce.proofs.member.reduced_member.Goals as goal

pub reduced_by-requires-clause-some : goal.reduced_by-requires-clause-some
reduced_by-requires-clause-some g c = subst (λ z. 0 < length z) (sym c.at.ensures) c.requires.some

pub reduced_by-requires-clause-member : goal.reduced_by-requires-clause-member
reduced_by-requires-clause-member g c =
    let over = IsVectorOver (g.F.Frame.over c.args.frame.now) (g.F.Frame.compare c.args.frame.now) in
    subst over (sym c.at.ensures) (Each_member over (g.L.Vectors.listed c.args.list.now) c.args.index [] c.requires.vectors c.requires.index)

pub returns-in-Ok-clause-reduced : goal.returns-in-Ok-clause-reduced
returns-in-Ok-clause-reduced g c =
    let ring = g.F.Frame.over c.args.frame.now in
    let compare = g.F.Frame.compare c.args.frame.now in
    let list = g.L.Vectors.listed c.args.list.now in
    record {
      member =
          by_list ring compare c.lawful_setting.ensures list c.args.index c.in-Ok.reduced
          (subst (λ w. HasReducedTail ring compare list w c.in-Ok.reduced) c.at.ensures c.in-Ok.ensures.reduced);
      divided = subst (λ w. HasDivision ring list (drop 1 w)) c.at.ensures c.in-Ok.ensures.divided;
    }

pub reduced_by-requires-clause-list : goal.reduced_by-requires-clause-list
reduced_by-requires-clause-list g c = c.requires.vectors

pub reduced_by-requires-clause-divisors : goal.reduced_by-requires-clause-divisors
reduced_by-requires-clause-divisors g c = c.requires.divisors
