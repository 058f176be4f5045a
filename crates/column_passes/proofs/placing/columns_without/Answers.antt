use Rattle.std.proofs.Common.{[], rules, subst, sym, ◌∙◌, ◌≡◌}
use Rattle.std.proofs.lemmas.List.{map-id}
use Rattle.term_lists.specs.Rings.{ring_comparison, variables}
use Rattle.term_lists.specs.Vectors.{AreVectorsOver, sums_of}
use Rattle.column_passes.proofs.Columns.{columns_done, columns_more, columns_start, vectors_pushed}
use Rattle.column_passes.proofs.Places.{none_leave}
use Rattle.column_passes.specs.Placing.{AreWithout}
use Rattle.column_passes.proofs.placing.columns_without.Goals as goal

pub loop-v-init : goal.loop-v-init
loop-v-init c =
    let ring = c.args.ring.now in
    let all = c.from_vec-rest.ensures.items ∙ c.into_vec.ensures in
    record {
      same = λ rows h. columns_start (variables ring) rows c.args.columns c.in_ok-without.without.items c.from_vec-rest.result.items
          c.in_ok-without.ensures.items all;
      vectors = subst (AreVectorsOver ring (ring_comparison ring)) (sym c.in_ok-without.ensures.items) tt;
      left = subst (AreVectorsOver ring (ring_comparison ring)) (sym all) c.requires.vectors;
    }

pub placed_vector-requires-clause-vector : goal.placed_vector-requires-clause-vector
placed_vector-requires-clause-vector c =
    let ring = c.args.ring.now in
    (subst (AreVectorsOver ring (ring_comparison ring)) c.in-Some.ensures.items c.loop-v.invariant.left).0

pub loop-v-preserved : goal.loop-v-preserved
loop-v-preserved c =
    let ring = c.args.ring.now in
    let rest = subst (AreVectorsOver ring (ring_comparison ring)) c.in-Some.ensures.items c.loop-v.invariant.left in
    record {
      same = λ rows h.
          columns_more (variables ring) rows c.args.columns c.loop-v.without.items c.push.new.self.items c.loop-v.rest.items c.pop_front.new.self.items
          c.in-Some.v c.in_ok-placed_vector.field-0 (c.loop-v.invariant.same rows h) c.in-Some.ensures.items
          (c.in_ok-placed_vector.ensures.sum (variables ring) rows h) c.in_ok-push.ensures.items;
      vectors = vectors_pushed ring c.loop-v.without.items c.push.new.self.items c.in_ok-placed_vector.field-0 c.loop-v.invariant.vectors
          c.in_ok-placed_vector.ensures.vector c.in_ok-push.ensures.items;
      left = rest.1;
    }

pub returns : goal.returns
returns c = λ rows h.
    let ring = c.args.ring.now in
    let none : c.loop-v.rest.items ≡ [] = search rules in
    columns_done ring rows c.args.columns c.loop-v.without.items c.loop-v.rest.items c.from_vec.result none c.from_vec.ensures c.loop-v.invariant.vectors
    (c.loop-v.invariant.same rows h)

pub placed_vector-requires-clause-leaving : goal.placed_vector-requires-clause-leaving
placed_vector-requires-clause-leaving c = c.requires.leaving

pub returns-then-leaving-eq0 : goal.returns-then-leaving-eq0
returns-then-leaving-eq0 c = λ rows h.
    let ring = c.args.ring.now in
    let none : rows ≡ [] = none_leave rows c.args.leaving.now h c.if-leaving-eq0.true in
    subst (λ rs. AreWithout ring rs c.args.columns c.args.columns) (sym none) record {
      same = sym (map-id (sums_of (variables ring) c.args.columns));
      vectors = c.requires.vectors;
    }
