use Rattle.std.proofs.Common.{arith, subst, sym, ◌++◌, ◌-◌, ◌<◌}
use Rattle.monomials.specs.Exponents.{exponents_of}
use Rattle.formal_sums.specs.FormalSums.{scale}
use Rattle.term_lists.specs.Rings.{variables}
use Rattle.term_lists.specs.Stops.{ScaledStops}
use Rattle.term_lists.specs.Vectors.{IsMonomialOver, StandsFor, sum_of}
use Rattle.ideal_ops.proofs.OneMoreVariable.{rest_multiple}
use Rattle.ideal_ops.proofs.front.rest_multiple.Goals as goal

pub multiple_and_itself-requires-clause-factor : goal.multiple_and_itself-requires-clause-factor
multiple_and_itself-requires-clause-factor c = subst (λ r. c.minus_one.result < r.modulus.value) (sym c.requires.front) c.minus_one.ensures.reduced

pub multiple_and_itself-requires-clause-variables : goal.multiple_and_itself-requires-clause-variables
multiple_and_itself-requires-clause-variables c = subst (λ r. IsMonomialOver r c.args.t.now) (sym c.requires.front) c.requires.variable.weighed

pub multiple_and_itself-requires-clause-vector : goal.multiple_and_itself-requires-clause-vector
multiple_and_itself-requires-clause-vector c = c.requires.vector

pub returns-in-Ok-clause-vector : goal.returns-in-Ok-clause-vector
returns-in-Ok-clause-vector c = λ g h.
    let ring = c.args.ring.now in
    let front = c.args.front.now in
    let u = c.args.u.now in
    let some = c.minus_one.ensures.some in
    let less = c.minus_one.ensures.reduced in
    let sum = subst (λ x. StandsFor front c.in-Ok.w (scale x (exponents_of (variables front) c.args.t.now.exponents) (sum_of (variables front) u) ++ sum_of (variables front) u))
    c.minus_one.ensures.value c.in-Ok.ensures.sum in
    rest_multiple ring front (ring.modulus.value - 1) c.args.t.now u c.in-Ok.w g (omega (arith, some, less)) c.requires.front c.requires.variable
    h c.in-Ok.ensures.vector sum

pub returns-in-Err-clause-stop : goal.returns-in-Err-clause-stop
returns-in-Err-clause-stop c = subst (λ x. ScaledStops x c.args.t.now c.args.u.now c.in-Err.stop) c.minus_one.ensures.value c.in-Err.ensures.stop
