use Rattle.std.proofs.Common.{arith, rules}
use Rattle.std.proofs.lemmas.Int.{ints, to_z-of_z}
use Rattle.hilbert_laws.specs.Numerators.{plus}
use Rattle.hilbert_laws.specs.Shifting.{shifted}
use Rattle.hilbert_series.proofs.Coefs.{coefficient_plus, coefficient_size, pushed_length, pushed_places, shifted_size, sums_same}
use Rattle.hilbert_series.proofs.coefficients.plus_shifted.Goals as goal

pub overflow_add-coefficient : goal.overflow_add-coefficient
overflow_add-coefficient c =
    let a = coefficient_size c.args.left.now c.loop-d.d in
    let b = shifted_size c.args.right.now c.args.m c.loop-d.d in
    let s = c.requires.small_left in
    let t = c.requires.small_right in
    let e = c.coefficient.ensures in
    let f = c.shifted_coefficient.ensures in
    search (arith, ints, to_z-of_z)

pub loop-d-preserved : goal.loop-d-preserved
loop-d-preserved c =
    let a = coefficient_size c.args.left.now c.loop-d.d in
    let b = shifted_size c.args.right.now c.args.m c.loop-d.d in
    let s = c.requires.small_left in
    let t = c.requires.small_right in
    let e = c.coefficient.ensures in
    let f = c.shifted_coefficient.ensures in
    let g = coefficient_plus c.args.left.now (shifted c.args.m c.args.right.now) c.loop-d.d in
    record {
      long = pushed_length c.loop-d.sums.items c.push.new.self.items _ c.loop-d.d c.in_ok-push.ensures.items c.loop-d.invariant.long;
      places = pushed_places c.loop-d.sums.items c.push.new.self.items (plus c.args.left.now (shifted c.args.m c.args.right.now)) _ c.loop-d.d
          c.in_ok-push.ensures.items c.loop-d.invariant.long (search (arith, ints, to_z-of_z)) c.loop-d.invariant.places;
    }

pub returns : goal.returns
returns c = record {
  sum = sums_same c.loop-d.sums.items c.args.left.now c.args.right.now c.args.m (search (arith, rules)) (λ x lt. c.loop-d.invariant.places x (search
      (arith, rules)));
}
