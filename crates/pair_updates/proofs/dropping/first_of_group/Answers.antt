use Rattle.std.proofs.Common.{arith, get_or}
use Rattle.basis_steps.specs.Updates.{IsOfGroup}
use Rattle.pair_updates.proofs.FirstYields.{group_all, group_before}
use Rattle.pair_updates.proofs.NewFates.{below_next, own_group}
use Rattle.pair_updates.proofs.CriterionTests.{not_true}
use Rattle.pair_updates.specs.Leads.{sums_shown}
use Rattle.pair_updates.proofs.dropping.first_of_group.Goals as goal

pub loop-k-init : goal.loop-k-init
loop-k-init c = λ k l g. omega (arith, l)

pub loop-k-preserved : goal.loop-k-preserved
loop-k-preserved c =
    let m = c.args.leads.now in
    let x = c.args.pair.now in
    below_next (λ k. IsOfGroup (sums_shown m) x.j x.i (get_or c.args.left.now k 0)) c.loop-k.k c.loop-k.invariant
    (λ g. not_true _ c.if-is_of_group.false (c.is_of_group.ensures.1 g))

pub returns-then-is_of_group : goal.returns-then-is_of_group
returns-then-is_of_group c =
    let m = c.args.leads.now in
    let x = c.args.pair.now in
    record {
      member = c.is_of_group.ensures.0 c.if-is_of_group.true;
      first = λ group l lt g.
          group_before (sums_shown m) x.j x.i c.loop-k.k c.args.left.now (λ k. IsOfGroup (sums_shown m) x.j x.i k)
          group c.loop-k-test.true c.loop-k.invariant l lt g g;
    }

pub returns : goal.returns
returns c =
    let m = c.args.leads.now in
    let x = c.args.pair.now in
    record {
      member = own_group m c.args.news.now x c.requires.new;
      first = λ group l lt g.
          group_all (sums_shown m) x.j x.i c.loop-k.k c.args.left.now (λ k. IsOfGroup (sums_shown m) x.j x.i k)
          group (omega (arith, c.loop-k-test.false)) c.loop-k.invariant l g g;
    }
