use Rattle.std.proofs.Common.{arith, subst, sym, ◌-◌, ◌<◌}
use Rattle.monomials.specs.Exponents.{exponents_of}
use Rattle.formal_sums.specs.FormalSums.{scale}
use Rattle.operation_laws.specs.Operations.{with_first}
use Rattle.term_lists.specs.Rings.{ring_comparison, variables}
use Rattle.term_lists.specs.Stops.{ScaledStops}
use Rattle.term_lists.specs.Vectors.{IsMonomialOver, IsVectorOver, StandsFor, sum_of}
use Rattle.ideal_ops.proofs.FrontBases.{front_low}
use Rattle.ideal_ops.proofs.OneMoreVariable.{front_multiple}
use Rattle.ideal_ops.proofs.saturating.negative_multiple.Goals as goal

pub scaled-requires-clause-factor : goal.scaled-requires-clause-factor
scaled-requires-clause-factor c = subst (λ r. c.minus_one.result < r.modulus.value) (sym c.requires.front) c.minus_one.ensures.reduced

pub scaled-requires-clause-variables : goal.scaled-requires-clause-variables
scaled-requires-clause-variables c = subst (λ r. IsMonomialOver r c.args.t.now) (sym c.requires.front) c.requires.variable.weighed

pub scaled-requires-clause-vector : goal.scaled-requires-clause-vector
scaled-requires-clause-vector c = subst (λ r. IsVectorOver r (ring_comparison r) c.in_ok-u.u) (sym c.requires.front) c.in_ok-u.ensures.vector

pub returns-in-Ok-clause-vector : goal.returns-in-Ok-clause-vector
returns-in-Ok-clause-vector c =
    let ring = c.args.ring.now in
    let front = c.args.front.now in
    let some = c.minus_one.ensures.some in
    let less = c.minus_one.ensures.reduced in
    let sum = subst (λ x. StandsFor front c.in-Ok.w (scale x (exponents_of (variables front) c.args.t.now.exponents) (sum_of (variables front) c.in_ok-u.u))) c.minus_one.ensures.value c.in-Ok.ensures.sum in
    front_multiple ring front (ring.modulus.value - 1) c.args.t.now c.in_ok-u.u c.in-Ok.w (with_first (sum_of (variables ring) c.args.f.now)) (omega (arith, some, less)) c.requires.front c.requires.variable
    c.in_ok-u.ensures c.in-Ok.ensures.vector sum

pub turned_stop-requires-clause-u : goal.turned_stop-requires-clause-u
turned_stop-requires-clause-u c = subst (λ r. IsVectorOver r (ring_comparison r) c.in_ok-u.u) (sym c.requires.front) c.in_ok-u.ensures.vector

pub turned_stop-requires-clause-u_positions : goal.turned_stop-requires-clause-u_positions
turned_stop-requires-clause-u_positions c = front_low c.args.ring.now 1 (c.lawful_setting.ensures 1) c.args.f.now c.in_ok-u.u c.in_ok-u.ensures c.requires.f_positions

pub turned_stop-requires-clause-stop : goal.turned_stop-requires-clause-stop
turned_stop-requires-clause-stop c = subst (λ x. ScaledStops x c.args.t.now c.in_ok-u.u c.in-Err.stop) c.minus_one.ensures.value c.in-Err.ensures.stop

pub in_front-requires-clause-front : goal.in_front-requires-clause-front
in_front-requires-clause-front c = c.requires.front

pub in_front-requires-clause-vector : goal.in_front-requires-clause-vector
in_front-requires-clause-vector c = c.requires.f

pub turned_stop-requires-clause-front : goal.turned_stop-requires-clause-front
turned_stop-requires-clause-front c = c.requires.front

pub turned_stop-requires-clause-variable : goal.turned_stop-requires-clause-variable
turned_stop-requires-clause-variable c = c.requires.variable
