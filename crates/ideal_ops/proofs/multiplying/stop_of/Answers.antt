use Rattle.std.proofs.Common.{[], get_or, subst, ◌∷◌}
use Rattle.module_vectors.specs.ProductStops.{CombinationStops}
use Rattle.ideal_ops.proofs.Multiplied.{product_trail}
use Rattle.ideal_ops.proofs.multiplying.stop_of.Goals as goal

pub returns-in-Ok : goal.returns-in-Ok
returns-in-Ok c =
    let of = c.in-Ok.ensures.of in
    let step = c.in-Ok.ensures.step in
    let members = c.args.members in
    let k = c.args.index in
    product_trail c.args.ring.now c.args.b.now members k c.in-Degree.s c.in-Degree.t c.in-Ok.trail c.requires.b.each c.requires.b_positions c.requires.members c.requires.index
    (subst (CombinationStops c.args.b.now (get_or members k [] ∷ [])) c.in-Degree.is c.requires.stop)
    of.0 of.1 of.2 of.3 of.4 of.5 of.6 step.0 step.1
