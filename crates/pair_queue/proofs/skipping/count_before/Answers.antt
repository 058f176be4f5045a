use Rattle.std.proofs.Common.{arith, ap, ◌-◌, ◌∙◌, ◌≡◌}
use Rattle.pair_criteria.specs.declared.pair.Pair.{Pair as CodePair}
use Rattle.pair_queue.proofs.SameLcm.{same_place}
use Rattle.pair_updates.proofs.CriterionTests.{not_true}
use Rattle.pair_queue.proofs.skipping.count_before.Goals as goal

pub returns-then-not-equal-clause-other : goal.returns-then-not-equal-clause-other
returns-then-not-equal-clause-other c = λ y some is same.
    let x : CodePair = c.index-kept-count.result in
    let one : y ≡ x = same_place c.args.kept.now (c.loop-count.count - 1) y x (omega (arith, c.loop-count.invariant, some)) is c.index-kept-count.is in
    not_true c.equal.result c.if-not-equal.true
    (c.equal.ensures.value.1 (same ∙ ap (λ (z : CodePair). z.lcm.monomial) (one ∙ c.index-kept-count.is)))
