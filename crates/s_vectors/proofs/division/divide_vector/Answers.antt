use Rattle.std.proofs.Common.{ap, arith, length, subst, sym, ◌<◌}
use Rattle.formal_sums.proofs.Combining.{Each_map}
use Rattle.term_lists.specs.Rings.{ring_comparison, variables}
use Rattle.term_lists.specs.Vectors.{AreVectorsOver, IsVectorOver, key_of}
use Rattle.term_lists.specs.declared.ring.Ring.{Ring}
use Rattle.basis_core.proofs.Tracking.{vectors_over}
use Rattle.basis_core.specs.Rows.{vectors_in}
use Rattle.vector_division.specs.Divisions.{DivisionStops}
use Rattle.s_vectors.proofs.Leaving.{divided_over, first_steps, keys_met}
use Rattle.s_vectors.specs.PairProducts.{PairStops}
use Rattle.s_vectors.proofs.division.divide_vector.Goals as goal

pub reduce-requires-clause-vector : goal.reduce-requires-clause-vector
reduce-requires-clause-vector c = subst (λ (r : Ring). IsVectorOver r (ring_comparison r) c.args.vector.now) (sym c.requires.over) c.requires.top.vector

pub reduce-requires-clause-list : goal.reduce-requires-clause-list
reduce-requires-clause-list c =
    subst (λ (r : Ring). AreVectorsOver r (ring_comparison r) (vectors_in c.args.members.now.list)) (sym c.requires.over)
    (vectors_over c.args.members.now.shared c.args.members.now.list c.kept.ensures)

pub returns-in-Err-clause-stop : goal.returns-in-Err-clause-stop
returns-in-Err-clause-stop c =
    let m = c.args.members.now in
    let x = c.args.pair.now in
    let n = variables m.shared.ring in
    let some : 0 < length c.args.parts.items = omega (arith, ap length c.requires.top.two.two) in
    subst (λ (r : Ring). PairStops (variables r) r.weights m.list (key_of (variables r) x.lcm) c.stop_of_division.result) (sym c.requires.over)
    (c.stop_of_division.ensures m.shared.ring m.list (key_of n x.lcm) c.args.vector.now some
    (first_steps m x c.requires.pair c.args.parts.items c.requires.top.two)
    (keys_met m x c.requires.pair c.args.parts.items c.args.vector.now c.requires.top)
    (subst (λ (r : Ring). DivisionStops r c.args.vector.now (vectors_in m.list) c.in-Err.stop) c.requires.over c.in-Err.ensures.stop))

pub take_quotients-requires : goal.take_quotients-requires
take_quotients-requires c = Each_map _ _ c.in-Ok.reduction.quotients.items (λ q i. i.reduced) c.in-Ok.ensures.quotients

pub make_division-requires-clause-divided : goal.make_division-requires-clause-divided
make_division-requires-clause-divided c =
    let f = c.in-Ok.ensures in
    divided_over c.args.members.now c.args.pair.now c.requires.pair c.args.parts.items c.args.vector.now c.requires.top c.args.ring.now c.in-Ok.reduction.quotients.items c.take_quotients.new.parts.items c.in-Ok.reduction.rest
    c.requires.over c.requires.some c.in_ok-take_quotients.ensures f.quotients f.met f.bounded f.sum f.rest

pub make_division-requires-clause-over : goal.make_division-requires-clause-over
make_division-requires-clause-over c = c.requires.over

pub make_division-requires-clause-pair : goal.make_division-requires-clause-pair
make_division-requires-clause-pair c = c.requires.pair
