use Rattle.std.proofs.Common.{List, [], ap, arith, length, subst, subst₂, sym, take, ℕ, ◌+◌, ◌∙◌, ◌∷◌}
use Rattle.std.proofs.lemmas.List.{take_all}
use Rattle.formal_sums.proofs.WeightedSums.{Each_append}
use Rattle.term_lists.proofs.Scaling.{Each_at}
use Rattle.term_lists.specs.Rings.{ring_comparison}
use Rattle.term_lists.specs.Vectors.{AreVectorsOver, IsVectorOver}
use Rattle.term_lists.specs.declared.key.Key.{Key as CodeKey}
use Rattle.degree_engine.specs.LastVariables.{AreAtOne}
use Rattle.degree_engine.proofs.LastVariable.{at_one_none, raised_next}
use Rattle.degree_engine.proofs.last_variable.raised_list.Goals as goal

pub loop-v-init : goal.loop-v-init
loop-v-init c =
    let ring = c.args.ring.now in
    let target = c.args.more.now in
    record {
      vectors = subst (AreVectorsOver target (ring_comparison target)) (sym c.in_ok-vectors.ensures.items) tt;
      at_one = subst (λ l. AreAtOne ring l []) (sym c.in_ok-vectors.ensures.items) (at_one_none ring);
      len = c.in_ok-vectors.ensures.len;
      room = omega (arith, c.in_ok-vectors.ensures.capacity, c.len.ensures, ap length c.as_slice-v-items.ensures);
    }

pub raised_vector-requires : goal.raised_vector-requires
raised_vector-requires c =
    let source = c.args.ring.now in
    let items = c.as_slice-v-items.result.now in
    let all = subst (AreVectorsOver source (ring_comparison source)) (sym c.as_slice-v-items.ensures) c.requires.vectors in
    record {
      more = c.requires.more;
      vector = Each_at (IsVectorOver source (ring_comparison source)) items c.loop-v.v-index c.v-item.result all c.loop-v-test.true c.v-item.is;
    }

pub push_reserved-requires : goal.push_reserved-requires
push_reserved-requires c = omega arith

pub loop-v-preserved : goal.loop-v-preserved
loop-v-preserved c =
    let ring = c.args.ring.now in
    let target = c.args.more.now in
    let items = c.as_slice-v-items.result.now in
    let i = c.loop-v.v-index in
    let v = c.v-item.result in
    let u = c.in_ok-raised_vector.field-0 in
    let done = c.loop-v.vectors.items in
    record {
      vectors = subst (AreVectorsOver target (ring_comparison target)) (sym {A = List (List (CodeKey × ℕ))} c.push_reserved.ensures.items)
          (Each_append (IsVectorOver target (ring_comparison target)) done (u ∷ []) c.loop-v.invariant.vectors (c.in_ok-raised_vector.ensures.vector, tt));
      at_one = subst (λ l. AreAtOne ring l (take (i + 1) items)) (sym {A = List (List (CodeKey × ℕ))} c.push_reserved.ensures.items)
          (raised_next ring done items i u v c.loop-v-test.true c.v-item.is c.loop-v.invariant.at_one c.in_ok-raised_vector.ensures.at_one);
      len = omega arith;
      room = omega arith;
    }

pub returns : goal.returns
returns c =
    let ring = c.args.ring.now in
    let target = c.args.more.now in
    let all = take_all c.loop-v.v-index c.as_slice-v-items.result.now c.loop-v-test.false ∙ c.as_slice-v-items.ensures in
    record {
      vectors = subst (AreVectorsOver target (ring_comparison target)) (sym c.from_vec.ensures) c.loop-v.invariant.vectors;
      at_one = subst₂ (AreAtOne ring) (sym c.from_vec.ensures) all c.loop-v.invariant.at_one;
    }
