use Rattle.std.proofs.Common.{false, subst, sym, true, ◌∙◌, ◌≡◌}
use Rattle.division_laws.specs.Elimination.{has_none_of_first}
use Rattle.syzygy_laws.specs.Kernels.{all_kept}
use Rattle.term_lists.specs.Rings.{variables}
use Rattle.term_lists.specs.Vectors.{sum_of}
use Rattle.syzygy_engine.proofs.Marks.{loose}
use Rattle.ideal_ops.proofs.Shared.{of_terms}
use Rattle.ring_maps.proofs.GraphRings.{doubled_graph}
use Rattle.ring_maps.proofs.GraphBases.{expression_stops, is_expression, no_expression}
use Rattle.ring_maps.proofs.expressing.expressed.Goals as goal

pub first_vector-requires-clause-graph : goal.first_vector-requires-clause-graph
first_vector-requires-clause-graph c = doubled_graph c.args.ring.now c.args.graph.now c.requires.basis.run.doubled

pub first_vector-requires-clause-terms : goal.first_vector-requires-clause-terms
first_vector-requires-clause-terms c = loose c.args.ring.now c.args.g.now c.requires.vector.each

pub remainder-requires-clause-list : goal.remainder-requires-clause-list
remainder-requires-clause-list c = c.requires.basis.reduced.vectors

pub returns-in-Err-clause-stop : goal.returns-in-Err-clause-stop
returns-in-Err-clause-stop c =
    expression_stops c.args.ring.now c.args.graph.now c.args._images.now c.args.basis.now c.args.g.now c.in_ok-u.u c.in-Err.stop c.requires.basis c.in_ok-u.ensures.vector c.in_ok-u.ensures.stands c.in-Err.ensures.stop

pub returns-then-not-is_free-clause-answer : goal.returns-then-not-is_free-clause-answer
returns-then-not-is_free-clause-answer c =
    let ring = c.args.ring.now in
    let graph = c.args.graph.now in
    let m = variables graph in
    let rest = c.in-Ok.rest in
    let left = subst (λ k. all_kept (has_none_of_first k) (sum_of m rest) ≡ false) c.len.ensures
    (sym (c.is_free.ensures m (of_terms graph rest (loose graph rest c.in-Ok.ensures.rest.each))) ∙ c.if-not-is_free.true) in
    no_expression ring graph c.args._images.now c.args.basis.now c.requires.basis c.lawful_setting.ensures c.requires.images c.args.g.now c.in_ok-u.u rest c.requires.polynomial
    c.in_ok-u.ensures.stands c.in-Ok.ensures.remainder c.in-Ok.ensures.rest left

pub second_vector-requires-clause-graph : goal.second_vector-requires-clause-graph
second_vector-requires-clause-graph c = doubled_graph c.args.ring.now c.args.graph.now c.requires.basis.run.doubled

pub second_vector-requires-clause-terms : goal.second_vector-requires-clause-terms
second_vector-requires-clause-terms c = loose c.args.graph.now c.in-Ok.rest c.in-Ok.ensures.rest.each

pub returns-clause-answer : goal.returns-clause-answer
returns-clause-answer c =
    let ring = c.args.ring.now in
    let graph = c.args.graph.now in
    let m = variables graph in
    let rest = c.in-Ok.rest in
    let kept = subst (λ k. all_kept (has_none_of_first k) (sum_of m rest) ≡ true) c.len.ensures
    (sym (c.is_free.ensures m (of_terms graph rest (loose graph rest c.in-Ok.ensures.rest.each))) ∙ c.if-not-is_free.false) in
    is_expression ring graph c.args._images.now c.args.basis.now c.requires.basis c.lawful_setting.ensures c.requires.images c.args.g.now c.in_ok-u.u rest c.requires.polynomial
    c.in_ok-u.ensures.stands c.in-Ok.ensures.remainder c.in-Ok.ensures.rest kept c.in_ok-second_vector.field-0 c.in_ok-second_vector.ensures.vector c.in_ok-second_vector.ensures.stands
