use Rattle.std.proofs.Common.{ap, arith, of_z, refl, ◌≡◌}
use Rattle.std.specs.Int.{w128}
use Rattle.std.specs.Prelude.{pos, ◌-ℤ◌}
use Rattle.std.proofs.lemmas.Int.{ints, to_z-of_z}
use Rattle.hilbert_series.proofs.Division.{dimension_with, division_ends, division_goes_on, large_coefficient_of}
use Rattle.hilbert_series.proofs.Division.{last_narrow, stops_on, sums_popped, zero_dimension}
use Rattle.hilbert_series.proofs.dimension.dimension_degree.Goals as goal

pub returns-then-not-are_narrow-clause-stop : goal.returns-then-not-are_narrow-clause-stop
returns-then-not-are_narrow-clause-stop c =
    large_coefficient_of c.args.series.now.coefficients.items c.deref.result.now c.deref.ensures.value (c.if-not-are_narrow.ensures.wide refl)

pub returns-in-Err-clause-stop : goal.returns-in-Err-clause-stop
returns-in-Err-clause-stop c =
    stops_on c.args.series.now.coefficients.items c.loop-order.rest.items c.as_slice.result.now c.loop-order.order c.in-Err.stop c.as_slice.ensures.value
    c.loop-order.invariant.divided c.in-Err.ensures.stop

pub returns-then-value-ne0-clause-value : goal.returns-then-value-ne0-clause-value
returns-then-value-ne0-clause-value c =
    let K = c.args.series.now.coefficients.items in
    let rest = c.loop-order.rest.items in
    let init = c.pop.new.self.items in
    let a = c.in-Some.value in
    let s = sums_popped rest c.as_slice.result.now c.in-Ok.sums.items init a c.as_slice.ensures.value c.in-Some.ensures.items c.in-Ok.ensures.sums in
    let b = last_narrow rest init a s in
    let d = c.difference.ensures.value in
    let f = c.difference.ensures.narrow in
    dimension_with c.args.series.now.n K _ _ (pos c.args.series.now.n -ℤ pos c.loop-order.order) a
    (search (arith, ints, to_z-of_z)) (search (arith, ints, to_z-of_z))
    (division_ends c.args.series.now.n K rest init a c.loop-order.order c.loop-order.invariant.divided s (λ e. c.if-value-ne0.true (ap (of_z w128) e))).0

pub returns-then-value-ne0-clause-not_large : goal.returns-then-value-ne0-clause-not_large
returns-then-value-ne0-clause-not_large c =
    let K = c.args.series.now.coefficients.items in
    let rest = c.loop-order.rest.items in
    let init = c.pop.new.self.items in
    let a = c.in-Some.value in
    let s = sums_popped rest c.as_slice.result.now c.in-Ok.sums.items init a c.as_slice.ensures.value c.in-Some.ensures.items c.in-Ok.ensures.sums in
    (division_ends c.args.series.now.n K rest init a c.loop-order.order c.loop-order.invariant.divided s (λ e. c.if-value-ne0.true (ap (of_z w128) e))).1

pub loop-order-preserved : goal.loop-order-preserved
loop-order-preserved c =
    let K = c.args.series.now.coefficients.items in
    let rest = c.loop-order.rest.items in
    let init = c.pop.new.self.items in
    let a = c.in-Some.value in
    let s = sums_popped rest c.as_slice.result.now c.in-Ok.sums.items init a c.as_slice.ensures.value c.in-Some.ensures.items c.in-Ok.ensures.sums in
    let b = last_narrow rest init a s in
    let f = c.if-value-ne0.false in
    let zero : a ≡ pos 0 = search (arith, ints, to_z-of_z) in
    let g = division_goes_on K rest init a c.loop-order.order c.loop-order.invariant.divided s zero in
    record {
      divided = g.0;
      long = let e = g.1 in let l = c.loop-order.invariant.long in omega (arith, e, l);
    }

pub returns-clause-value : goal.returns-clause-value
returns-clause-value c =
    let l = c.loop-order.invariant.long in
    let f = c.loop-order-test.false in
    let e = c.len-order-end.ensures in
    (zero_dimension c.args.series.now.n c.args.series.now.coefficients.items c.loop-order.rest.items c.loop-order.order c.loop-order.invariant.divided
    (omega (arith, l, f, e))).0

pub returns-clause-not_large : goal.returns-clause-not_large
returns-clause-not_large c =
    let l = c.loop-order.invariant.long in
    let f = c.loop-order-test.false in
    let e = c.len-order-end.ensures in
    (zero_dimension c.args.series.now.n c.args.series.now.coefficients.items c.loop-order.rest.items c.loop-order.order c.loop-order.invariant.divided
    (omega (arith, l, f, e))).1
