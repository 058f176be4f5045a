use Rattle.std.proofs.Common.{[], arith, length, ◌*◌, ◌-◌, ◌<◌, ◌∷◌, ◌≤◌}
use Rattle.term_lists.specs.Rings.{ring_comparison, variables}
use Rattle.symbolic_prep.proofs.Closing.{pairs_more, some_products}
use Rattle.symbolic_prep.proofs.Counting.{sparse_start}
use Rattle.vector_division.proofs.Looping.{are_weighed}
use Rattle.symbolic_prep.proofs.preparing.prepare.Goals as goal

pub add_pairs-requires-clause-weighed : goal.add_pairs-requires-clause-weighed
add_pairs-requires-clause-weighed g c =
    let ring = c.args.ring.now in
    let n = variables ring in
    are_weighed n ring.weights ring.modulus.value (ring_comparison ring n) (g.L.Vectors.listed c.args.members.now) c.requires.members

pub add_pairs-requires-clause-plan : goal.add_pairs-requires-clause-plan
add_pairs-requires-clause-plan g c =
    let ring = c.args.ring.now in
    c.in_ok-plan.ensures.plan (variables ring) ring.weights (g.L.Vectors.listed c.args.members.now)

pub returns-in-Err-clause-stop : goal.returns-in-Err-clause-stop
returns-in-Err-clause-stop g c =
    let ring = c.args.ring.now in
    c.stop_of.ensures (variables ring) ring.weights (g.L.Vectors.listed c.args.members.now) c.args.pairs.now c.in-Err.ensures.stop

pub close_plan-requires-clause-weighed : goal.close_plan-requires-clause-weighed
close_plan-requires-clause-weighed g c =
    let ring = c.args.ring.now in
    let n = variables ring in
    are_weighed n ring.weights ring.modulus.value (ring_comparison ring n) (g.L.Vectors.listed c.args.members.now) c.requires.members

pub returns-in-Err-close_plan-clause-stop : goal.returns-in-Err-close_plan-clause-stop
returns-in-Err-close_plan-clause-stop g c =
    let ring = c.args.ring.now in
    c.stop_of-in-Err-close_plan.ensures (variables ring) ring.weights (g.L.Vectors.listed c.args.members.now) c.args.pairs.now c.in-Err-close_plan.ensures.stop

pub matrix_of-requires-clause-products : goal.matrix_of-requires-clause-products
matrix_of-requires-clause-products g c =
    let later = c.in_default-close_plan.ensures.later in
    pairs_more (variables c.args.ring.now) (g.L.Vectors.listed c.args.members.now) c.add_pairs.new.plan.products.items later.more c.close_plan.new.plan.products.items c.args.pairs.now later.products_more c.in_default.ensures.pairs

pub matrix_of-requires-clause-few : goal.matrix_of-requires-clause-few
matrix_of-requires-clause-few g c = λ some.
    let rows = c.add_pairs.new.plan.rows.items in
    let products = c.add_pairs.new.plan.products.items in
    let count : length rows ≤ 2 * length c.args.pairs.now = omega (arith, c.in_default.ensures.count, c.in_ok-plan.ensures.no_rows) in
    let there : 0 < length rows = omega (arith, c.in_default.ensures.later.plan.count, some_products (variables c.args.ring.now) (g.L.Vectors.listed c.args.members.now) products c.args.pairs.now some c.in_default.ensures.pairs) in
    c.in_default-close_plan.ensures.sparse (0 ∷ []) (2 * length c.args.pairs.now - 1)
    (sparse_start rows (length c.args.pairs.now) some there count)

pub add_pairs-requires-clause-pairs : goal.add_pairs-requires-clause-pairs
add_pairs-requires-clause-pairs g c = c.requires.pairs

pub matrix_of-requires-clause-members : goal.matrix_of-requires-clause-members
matrix_of-requires-clause-members g c = c.requires.members

pub matrix_of-requires-clause-monic : goal.matrix_of-requires-clause-monic
matrix_of-requires-clause-monic g c = c.requires.monic

pub matrix_of-requires-clause-pairs : goal.matrix_of-requires-clause-pairs
matrix_of-requires-clause-pairs g c = c.requires.pairs
