use Rattle.std.proofs.Common.{ap, arith, get_or, inl, inr, sym, ◌∙◌, ◌≡◌}
use Rattle.std.proofs.lemmas.Bool.{cases_lt}
use Rattle.pair_criteria.specs.declared.pair.Pair.{Pair as CodePair}
use Rattle.pair_queue.proofs.SameLcm.{same_place}
use Rattle.pair_updates.specs.Pairs.{index_pair_of}
use Rattle.pair_queue.specs.Tables.{flag}
use Rattle.pair_queue.proofs.skipping.count_due.Goals as goal

pub loop-k-preserved : goal.loop-k-preserved
loop-k-preserved c = λ j x lo hi is. elim (cases_lt j c.loop-k.k) [
  | inl l ↦ c.loop-k.invariant j x lo l is
  | inr l ↦ (
      let e : j ≡ c.loop-k.k = omega (arith, hi, l) in
      let r : CodePair = c.index-kept-k.result in
      let same : x ≡ r = same_place c.args.kept.now c.loop-k.k x r c.loop-k-test.true (is ∙ ap (λ k. get_or c.args.kept.now k x) e) c.index-kept-k.is in
      ap (λ (z : CodePair). flag c.args.due.now (index_pair_of z)) same ∙ sym c.has.ensures ∙ c.if-not-has.false)
]
