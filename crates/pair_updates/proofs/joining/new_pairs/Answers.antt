use Rattle.std.proofs.Common.{arith, length, ◌∙◌, ◌≡◌}
use Rattle.pair_updates.proofs.Leading.{leads_length}
use Rattle.pair_updates.proofs.NewPairs.{all_new, new_more}
use Rattle.pair_updates.specs.Leads.{lead_sums}
use Rattle.pair_updates.proofs.joining.new_pairs.Goals as goal

pub loop-j-preserved : goal.loop-j-preserved
loop-j-preserved c =
    let n = c.args.leads.now.variables in
    let G = lead_sums n c.args.leads.now.keys in
    let long : length G ≡ length c.args.leads.now.keys = leads_length n c.args.leads.now.keys in
    record {
      lcms = c.in_ok-push_pairs.ensures.lcms;
      same = λ x.
          let a = c.in_ok-push_pairs.ensures.same x in
          let b = c.loop-j.invariant.same x in
          let d = new_more G c.args.first c.loop-j.j x (omega arith) (omega (arith, long)) in
          omega (arith, a, b, d);
    }

pub returns-clause-same : goal.returns-clause-same
returns-clause-same c = λ x.
    let n = c.args.leads.now.variables in
    let G = lead_sums n c.args.leads.now.keys in
    let e : length G ≡ c.loop-j.j = omega (arith, leads_length n c.args.leads.now.keys) in
    c.loop-j.invariant.same x ∙ all_new G c.args.first c.loop-j.j x e
