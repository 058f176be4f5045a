use Rattle.std.proofs.Common.{arith}
use Rattle.pair_updates.proofs.NewPairs.{one_more}
use Rattle.pair_updates.specs.Leads.{lead_sums}
use Rattle.pair_updates.specs.Queueing.{are_together}
use Rattle.pair_updates.proofs.joining.push_pairs.Goals as goal

pub loop-i-preserved : goal.loop-i-preserved
loop-i-preserved c =
    let G = lead_sums c.args.leads.now.variables c.args.leads.now.keys in
    record {
      lcms = c.in_ok-push_pair.ensures.lcms;
      same = λ x.
          let a = c.in_ok-push_pair.ensures.same x in
          let b = c.loop-i.invariant.same x in
          let d = one_more (λ i. are_together G i c.args.j) c.loop-i.i c.args.j x in
          omega (arith, a, b, d);
    }

pub push_pair-requires-clause-known : goal.push_pair-requires-clause-known
push_pair-requires-clause-known c = c.requires.known
