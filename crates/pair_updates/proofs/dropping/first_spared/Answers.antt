use Rattle.std.proofs.Common.{arith, get_or}
use Rattle.basis_steps.specs.Updates.{IsOfGroup}
use Rattle.pair_updates.proofs.FirstYields.{group_all, group_before}
use Rattle.pair_updates.proofs.NewFates.{below_next}
use Rattle.pair_updates.proofs.CriterionTests.{not_true}
use Rattle.pair_updates.specs.Leads.{sums_shown}
use Rattle.pair_updates.specs.LeadCriteria.{ProductSpares}
use Rattle.pair_updates.proofs.dropping.first_spared.Goals as goal

pub loop-k-init : goal.loop-k-init
loop-k-init c = λ k l y. omega (arith, l)

pub loop-k-preserved : goal.loop-k-preserved
loop-k-preserved c =
    let m = c.args.leads.now in
    let x = c.args.pair.now in
    let left = c.args.left.now in
    below_next (λ k. IsOfGroup (sums_shown m) x.j x.i (get_or left k 0) × ProductSpares m (get_or left k 0, x.j)) c.loop-k.k c.loop-k.invariant
    (λ g. not_true _ c.if-is_spared.false (c.is_spared.ensures.none g.0 g.1))

pub returns-then-is_spared : goal.returns-then-is_spared
returns-then-is_spared c =
    let m = c.args.leads.now in
    let x = c.args.pair.now in
    record {
      member = c.is_spared.ensures.both c.if-is_spared.true;
      applies = c.is_spared.ensures.applies c.if-is_spared.true;
      first = λ l lt g p.
          group_before (sums_shown m) x.j x.i c.loop-k.k c.args.left.now (λ k. IsOfGroup (sums_shown m) x.j x.i k × ProductSpares m (k, x.j))
          c.requires.group c.loop-k-test.true c.loop-k.invariant l lt g (g, p);
    }

pub returns : goal.returns
returns c =
    let m = c.args.leads.now in
    let x = c.args.pair.now in
    λ l g p. group_all (sums_shown m) x.j x.i c.loop-k.k c.args.left.now (λ k. IsOfGroup (sums_shown m) x.j x.i k × ProductSpares m (k, x.j))
    c.requires.group (omega (arith, c.loop-k-test.false)) c.loop-k.invariant l g (g, p)
