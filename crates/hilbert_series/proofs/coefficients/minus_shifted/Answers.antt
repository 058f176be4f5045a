use Rattle.std.proofs.Common.{arith, rules}
use Rattle.std.proofs.lemmas.Int.{ints, to_z-of_z}
use Rattle.hilbert_laws.specs.Shifting.{minus, shifted}
use Rattle.hilbert_series.proofs.Coefs.{coefficient_minus, coefficient_size, pushed_length, pushed_places, shifted_size, differences_same}
use Rattle.hilbert_series.proofs.coefficients.minus_shifted.Goals as goal

pub overflow_sub-coefficient : goal.overflow_sub-coefficient
overflow_sub-coefficient c =
    let a = coefficient_size c.args.left.now c.loop-d.d in
    let b = shifted_size c.args.right.now c.args.m c.loop-d.d in
    let s = c.requires.small_left in
    let t = c.requires.small_right in
    let e = c.coefficient.ensures in
    let f = c.shifted_coefficient.ensures in
    search (arith, ints, to_z-of_z)

pub loop-d-preserved : goal.loop-d-preserved
loop-d-preserved c =
    let a = coefficient_size c.args.left.now c.loop-d.d in
    let b = shifted_size c.args.right.now c.args.m c.loop-d.d in
    let s = c.requires.small_left in
    let t = c.requires.small_right in
    let e = c.coefficient.ensures in
    let f = c.shifted_coefficient.ensures in
    let g = coefficient_minus c.args.left.now (shifted c.args.m c.args.right.now) c.loop-d.d in
    record {
      long = pushed_length c.loop-d.differences.items c.push.new.self.items _ c.loop-d.d c.in_ok-push.ensures.items c.loop-d.invariant.long;
      places = pushed_places c.loop-d.differences.items c.push.new.self.items (minus c.args.left.now (shifted c.args.m c.args.right.now)) _
          c.loop-d.d c.in_ok-push.ensures.items c.loop-d.invariant.long (search (arith, ints, to_z-of_z)) c.loop-d.invariant.places;
    }

pub returns : goal.returns
returns c = record {
  difference = differences_same c.loop-d.differences.items c.args.left.now c.args.right.now c.args.m (search (arith, rules)) (λ x lt.
      c.loop-d.invariant.places x (search (arith, rules)));
}
