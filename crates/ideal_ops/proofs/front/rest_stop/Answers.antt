use Rattle.std.proofs.Common.{[], get_or, ◌-◌}
use Rattle.term_lists.specs.Rings.{variables}
use Rattle.ideal_ops.specs.FrontVariable.{IsFrontTrail, rest_polynomial}
use Rattle.ideal_ops.specs.Products.{IsProductTrail}
use Rattle.ideal_ops.proofs.Multiplied.{more_trails}
use Rattle.ideal_ops.proofs.OneMoreVariable.{front_trail, rest_front, rest_low, rest_stops}
use Rattle.ideal_ops.proofs.front.rest_stop.Goals as goal

pub stop_of-requires-clause-b_positions : goal.stop_of-requires-clause-b_positions
stop_of-requires-clause-b_positions c = rest_low c.args.ring.now c.args.t.now c.in-Ok.b c.in-Ok.ensures.terms

pub stop_of-requires-clause-stop : goal.stop_of-requires-clause-stop
stop_of-requires-clause-stop c =
    rest_stops c.args.ring.now c.args.t.now c.in-Ok.b (get_or c.args.members c.args.index []) (c.args.ring.now.modulus.value - 1) c.args.stop c.in-Ok.ensures.terms
    c.requires.stop

pub rest_vector-requires-clause-front : goal.rest_vector-requires-clause-front
rest_vector-requires-clause-front c = c.requires.front

pub rest_vector-requires-clause-variable : goal.rest_vector-requires-clause-variable
rest_vector-requires-clause-variable c = c.requires.variable

pub returns-in-Ok : goal.returns-in-Ok
returns-in-Ok c = λ G h.
    let ring = c.args.ring.now in
    let b = c.in-Ok.b in
    let members = c.args.members in
    let k = c.args.index in
    let p = rest_polynomial (variables ring) ring.modulus.value in
    more_trails (IsProductTrail c.args.front.now b members k) (IsFrontTrail ring p G k)
    (front_trail ring c.args.front.now p G b members k c.requires.front
    (rest_front ring c.args.front.now c.args.t.now b c.requires.front c.requires.variable c.in-Ok.ensures.vector c.in-Ok.ensures.terms) h)
    c.stop_of.result c.stop_of.ensures

pub stop_of-requires-clause-members : goal.stop_of-requires-clause-members
stop_of-requires-clause-members c = c.requires.members

pub stop_of-requires-clause-index : goal.stop_of-requires-clause-index
stop_of-requires-clause-index c = c.requires.index
