use Rattle.std.proofs.Common.{[], ap, rules, subst, sym, ◌∙◌, ◌≡◌}
use Rattle.term_lists.specs.Rings.{ring_comparison}
use Rattle.term_lists.specs.Vectors.{IsVectorOver, sum_of}
use Rattle.column_passes.proofs.Places.{left_sum, left_terms, left_vector, placed_end, placed_is, placed_more}
use Rattle.column_passes.proofs.placing.placed_vector.Goals as goal

pub loop-term-preserved : goal.loop-term-preserved
loop-term-preserved c = λ rows h.
    placed_more rows _ c.loop-term.left.items c.put.new.left.items c.loop-term.rest.items c.pop_front.new.self.items c.in-Some.term
    (c.loop-term.invariant rows h)
    c.in-Some.ensures.items (c.in_ok-put.ensures rows h)

pub from_ordered-requires : goal.from_ordered-requires
from_ordered-requires c =
    let ring = c.args.ring.now in
    let rows = c.requires.leaving.0 in
    let none : c.loop-term.rest.items ≡ [] = search rules in
    let all : c.loop-term.left.items ≡ left_terms rows c.args.v =
    placed_end rows _ c.loop-term.left.items c.loop-term.rest.items (c.loop-term.invariant rows c.requires.leaving.1) none ∙ placed_is rows c.args.v
    in
    subst (IsVectorOver ring (ring_comparison ring)) (sym all) (left_vector ring rows c.args.v c.requires.vector)

pub returns-clause-vector : goal.returns-clause-vector
returns-clause-vector c =
    let ring = c.args.ring.now in
    let rows = c.requires.leaving.0 in
    let none : c.loop-term.rest.items ≡ [] = search rules in
    let all : c.loop-term.left.items ≡ left_terms rows c.args.v =
    placed_end rows _ c.loop-term.left.items c.loop-term.rest.items (c.loop-term.invariant rows c.requires.leaving.1) none ∙ placed_is rows c.args.v
    in
    subst (IsVectorOver ring (ring_comparison ring)) (sym (c.from_ordered.ensures ∙ all)) (left_vector ring rows c.args.v c.requires.vector)

pub returns-clause-sum : goal.returns-clause-sum
returns-clause-sum c = λ n rows h.
    let none : c.loop-term.rest.items ≡ [] = search rules in
    let all : c.loop-term.left.items ≡ left_terms rows c.args.v =
    placed_end rows _ c.loop-term.left.items c.loop-term.rest.items (c.loop-term.invariant rows h) none ∙ placed_is rows c.args.v
    in
    ap (sum_of n) (c.from_ordered.ensures ∙ all) ∙ left_sum n rows c.args.v
