use Rattle.std.proofs.Common.{[], get_or, subst, sym, ◌∷◌}
use Rattle.term_lists.specs.Rings.{variables}
use Rattle.term_lists.specs.Vectors.{IsMonomialOver}
use Rattle.module_vectors.specs.ProductStops.{CombinationStops}
use Rattle.ideal_ops.specs.FrontVariable.{IsFrontTrail, front_polynomial}
use Rattle.ideal_ops.specs.Products.{IsProductTrail}
use Rattle.ideal_ops.proofs.Multiplied.{more_trails}
use Rattle.ideal_ops.proofs.OneMoreVariable.{front_trail, one_low, variable_front, variable_stops}
use Rattle.ideal_ops.proofs.front.variable_stop.Goals as goal

pub variable_vector-requires : goal.variable_vector-requires
variable_vector-requires c = subst (λ r. IsMonomialOver r c.args.t.now) (sym c.requires.front) c.requires.variable.weighed

pub stop_of-requires-clause-b_positions : goal.stop_of-requires-clause-b_positions
stop_of-requires-clause-b_positions c = one_low c.args.t.now c.in-Ok.b c.in-Ok.ensures.terms

pub stop_of-requires-clause-stop : goal.stop_of-requires-clause-stop
stop_of-requires-clause-stop c =
    let u = get_or c.args.members c.args.index [] in
    subst (λ v. CombinationStops v (u ∷ []) c.args.stop) (sym c.in-Ok.ensures.terms) (variable_stops c.args.t.now u c.args.stop c.requires.stop)

pub returns-in-Ok : goal.returns-in-Ok
returns-in-Ok c = λ G h.
    let ring = c.args._ring.now in
    let b = c.in-Ok.b in
    let members = c.args.members in
    let k = c.args.index in
    let p = front_polynomial (variables ring) in
    more_trails (IsProductTrail c.args.front.now b members k) (IsFrontTrail ring p G k)
    (front_trail ring c.args.front.now p G b members k c.requires.front
    (variable_front ring c.args.front.now c.args.t.now b c.requires.front c.requires.variable c.in-Ok.ensures.vector c.in-Ok.ensures.terms) h)
    c.stop_of.result c.stop_of.ensures

pub stop_of-requires-clause-members : goal.stop_of-requires-clause-members
stop_of-requires-clause-members c = c.requires.members

pub stop_of-requires-clause-index : goal.stop_of-requires-clause-index
stop_of-requires-clause-index c = c.requires.index
