use Rattle.std.proofs.Common.{refl}
use Rattle.groebner_iface.proofs.CallingRuns.{run_stops}
use Rattle.ideal_ops.specs.Products.{IsProductRun, IsTrailOfProducts}
use Rattle.ideal_ops.proofs.Multiplied.{basis_of_product, product_positions, work_stops}
use Rattle.ideal_ops.proofs.multiplying.product.Goals as goal

pub returns-in-Err-clause-stop : goal.returns-in-Err-clause-stop
returns-in-Err-clause-stop g c =
    let ring = c.args.ring.now in
    let left = c.args.left.now in
    let right = c.args.right.now in
    rw c.from.ensures
    (work_stops (g.B.Groebner.stops c.args.engine.now) (g.B.Groebner.stopped c.args.engine.now) (IsProductRun ring c.args.rank left right) (IsTrailOfProducts ring left right)
    c.in-Err.stop c.in-Err.ensures.stop)

pub reduced-requires-clause-positions : goal.reduced-requires-clause-positions
reduced-requires-clause-positions g c =
    let rank = c.args.rank in
    product_positions c.args.ring.now rank c.args.left.now c.args.right.now c.in-Ok.list (c.lawful_setting.ensures rank) c.requires.right_positions c.in-Ok.ensures.list

pub returns-in-Ok-reduced-clause-basis : goal.returns-in-Ok-reduced-clause-basis
returns-in-Ok-reduced-clause-basis g c =
    let rank = c.args.rank in
    basis_of_product c.args.ring.now rank c.args.left.now c.args.right.now c.in-Ok.list c.in-Ok-reduced.basis (c.lawful_setting.ensures rank) c.requires.right_positions
    c.in-Ok.ensures.list c.in-Ok-reduced.ensures.basis

pub returns-clause-stop : goal.returns-clause-stop
returns-clause-stop g c =
    let ring = c.args.ring.now in
    let rank = c.args.rank in
    let left = c.args.left.now in
    let right = c.args.right.now in
    rw c.from-in-Err-reduced.ensures
    (run_stops _ _ _ _ (IsProductRun ring rank left right) (IsTrailOfProducts ring left right) ring rank c.in-Ok.list c.in-Err-reduced.stop
    (refl, refl, c.in-Ok.ensures.list) c.in-Err-reduced.ensures.stop)

pub products-requires-clause-left : goal.products-requires-clause-left
products-requires-clause-left g c = c.requires.left

pub products-requires-clause-left_positions : goal.products-requires-clause-left_positions
products-requires-clause-left_positions g c = c.requires.left_positions

pub products-requires-clause-right : goal.products-requires-clause-right
products-requires-clause-right g c = c.requires.right
