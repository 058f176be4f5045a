use Rattle.std.proofs.Common.{[], subst, sym, ◌-◌, ◌∷◌}
use Rattle.term_lists.specs.Rings.{variables}
use Rattle.term_lists.specs.Stops.{ScaledStops}
use Rattle.term_lists.specs.Vectors.{IsMonomialOver}
use Rattle.ideal_ops.specs.FrontVariable.{IsFrontTrail, front_polynomial}
use Rattle.ideal_ops.specs.Products.{IsProductTrail}
use Rattle.ideal_ops.proofs.Multiplied.{more_trails}
use Rattle.ideal_ops.proofs.OneMoreVariable.{front_alone, front_trail, turned_stops, variable_front}
use Rattle.ideal_ops.proofs.saturating.turned_stop.Goals as goal

pub variable_vector-requires : goal.variable_vector-requires
variable_vector-requires c = subst (λ r. IsMonomialOver r c.args.t.now) (sym c.requires.front) c.requires.variable.weighed

pub product_stop-requires-clause-stop : goal.product_stop-requires-clause-stop
product_stop-requires-clause-stop c =
    let k = c.args.ring.now.modulus.value - 1 in
    turned_stops c.args.t.now c.args.u.now c.in-Ok.one k c.in-Degree.a c.in-Degree.b c.requires.u_positions c.in-Ok.ensures.terms
    (subst (ScaledStops k c.args.t.now c.args.u.now) c.in-Degree.is c.requires.stop)

pub returns-in-Ok : goal.returns-in-Ok
returns-in-Ok c = λ g h.
    let ring = c.args.ring.now in
    let u = c.args.u.now in
    let one = c.in-Ok.one in
    let p = front_polynomial (variables ring) in
    more_trails (IsProductTrail c.args.front.now u (one ∷ []) 0) (IsFrontTrail ring g (p ∷ []) 0)
    (front_trail ring c.args.front.now g (p ∷ []) u (one ∷ []) 0 c.requires.front h
    (front_alone ring p one (variable_front ring c.args.front.now c.args.t.now one c.requires.front c.requires.variable c.in-Ok.ensures.vector c.in-Ok.ensures.terms)))
    c.product_stop.result c.product_stop.ensures

pub product_stop-requires-clause-b : goal.product_stop-requires-clause-b
product_stop-requires-clause-b c = c.requires.u

pub product_stop-requires-clause-b_positions : goal.product_stop-requires-clause-b_positions
product_stop-requires-clause-b_positions c = c.requires.u_positions

pub product_stop-requires-clause-u : goal.product_stop-requires-clause-u
product_stop-requires-clause-u c = c.in-Ok.ensures.vector
