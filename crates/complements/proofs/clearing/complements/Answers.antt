use Rattle.std.proofs.Common.{[], arith, length, subst, ◌<◌, ◌∙◌, ◌≡◌}
use Rattle.std.proofs.lemmas.List.{get_or_default}
use Rattle.complements.proofs.Plus.{plus_next, plus_start}
use Rattle.complements.specs.Combining.{HasZeroSums}
use Rattle.complements.specs.Complements.{AreComplements}
use Rattle.complements.proofs.clearing.complements.Goals as goal

pub loop-v-init : goal.loop-v-init
loop-v-init c = record {
  all = plus_start c.args.ring.now c.args.columns.now c.args.vectors.now c.in_ok-all.all.items c.in_ok-all.ensures.items;
  cleared = subst (λ z. HasZeroSums c.args.ring.now z c.in_ok-accumulator.accumulator) c.as_slice-2.ensures c.in_ok-accumulator.ensures;
}

pub loop-v-preserved : goal.loop-v-preserved
loop-v-preserved c =
    let vectors = c.args.vectors.now in
    let i = c.loop-v.v-index in
    let v = c.v-item.result in
    let lt : i < length vectors = omega arith in
    record {
      all = plus_next c.args.ring.now c.args.columns.now vectors c.loop-v.all.items c.push.new.self.items i c.in_ok-copy.copy c.in-Ok.sum c.loop-v.invariant.all
          (c.in_ok-copy.ensures ∙ c.v-item.is ∙ get_or_default vectors i v [] lt) c.in-Ok.ensures.sum c.in-Ok.ensures.vector c.in_ok-push-in-Ok.ensures.items;
      cleared = c.in-Ok.ensures.cleared;
    }

pub returns : goal.returns
returns c =
    let vectors = c.args.vectors.now in
    let all : c.loop-v.v-index ≡ length vectors = omega arith in
    subst (λ k. AreComplements c.args.ring.now c.args.columns.now vectors k c.loop-v.all.items) all c.loop-v.invariant.all
