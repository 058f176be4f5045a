use Rattle.std.proofs.Common.{[], below_more, drop, get_or, length, rules, subst, sym, ◌<◌}
use Rattle.term_lists.proofs.Parts.{Each_member}
use Rattle.interreduce.specs.Members.{HasDivision, IsReducedMember}
use Rattle.interreduce.proofs.Gathering.{one_more, stopped_in_turn}
use Rattle.interreduce.proofs.turns.reduced_in_turn.Goals as goal

pub returns-in-Err-clause-stop : goal.returns-in-Err-clause-stop
returns-in-Err-clause-stop g c =
    stopped_in_turn (g.F.Frame.over c.args.frame.now) (g.F.Frame.compare c.args.frame.now) (g.L.Vectors.listed c.args.list.now) c.args.indices.now c.loop-index.members.items
    c.loop-index.index-index c.in-Err.stop c.loop-index.invariant.count c.loop-index-test.true c.loop-index.invariant.each c.loop-index.invariant.divided c.in-Err.ensures.stop

pub loop-index-preserved : goal.loop-index-preserved
loop-index-preserved g c = record {
  count = search rules;
  room = search rules;
  each = λ k l.
      subst (λ vs. IsReducedMember (g.F.Frame.over c.args.frame.now) (g.F.Frame.compare c.args.frame.now) (g.L.Vectors.listed c.args.list.now) (get_or c.args.indices.now k 0) (get_or vs k []))
      (sym c.push_reserved.ensures.items)
      (one_more (g.F.Frame.over c.args.frame.now) (g.F.Frame.compare c.args.frame.now) (g.L.Vectors.listed c.args.list.now) (λ j. get_or c.args.indices.now j 0) c.loop-index.members.items
      c.loop-index.index-index c.in-Ok.member c.loop-index.invariant.count c.loop-index.invariant.each c.in-Ok.ensures.reduced.member k l);
  divided = below_more (λ k. HasDivision (g.F.Frame.over c.args.frame.now) (g.L.Vectors.listed c.args.list.now) (drop 1 (get_or (g.L.Vectors.listed c.args.list.now) (get_or c.args.indices.now k 0) [])))
      c.loop-index.index-index c.loop-index.invariant.divided c.in-Ok.ensures.reduced.divided;
}

pub reduced_member-requires-clause-divisors : goal.reduced_member-requires-clause-divisors
reduced_member-requires-clause-divisors g c = c.requires.divisors

pub reduced_member-requires-clause-vectors : goal.reduced_member-requires-clause-vectors
reduced_member-requires-clause-vectors g c = c.requires.vectors

pub reduced_member-requires-clause-index : goal.reduced_member-requires-clause-index
reduced_member-requires-clause-index g c =
    Each_member (λ i. i < length (g.L.Vectors.listed c.args.list.now)) c.args.indices.now c.loop-index.index-index 0 c.requires.indices c.loop-index-test.true

pub reduced_member-requires-clause-some : goal.reduced_member-requires-clause-some
reduced_member-requires-clause-some g c =
    Each_member (λ i. 0 < length (get_or (g.L.Vectors.listed c.args.list.now) i [])) c.args.indices.now c.loop-index.index-index 0 c.requires.leads
    c.loop-index-test.true
