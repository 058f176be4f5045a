use Rattle.std.proofs.Common.{arith, length, rules, subst, subst₂, sym, ◌*◌, ◌/◌, ◌<◌, ◌≡◌}
use Rattle.std.specs.Prelude.{slice_index}
use Rattle.ring_maps.proofs.image_weights.are_multiples.Goals as goal

pub returns : goal.returns
returns c = λ some.
    let ws = c.args.weights.now in
    let vs = c.args.others.now in
    let w = c.as_slice-weights.ensures.value in
    let v = c.as_slice-others.ensures.value in
    let above : 0 < slice_index c.as_slice-others.result.now 0 / slice_index c.as_slice-weights.result.now 0 = search rules in
    record {
      factor = slice_index vs 0 / slice_index ws 0;
      positive = subst₂ (λ a b. 0 < slice_index a 0 / slice_index b 0) v w above;
      each = λ k lt. (
        c.as_slice-weights.ensures.positive k lt,
        subst₂ (λ a b. slice_index a k ≡ slice_index a 0 / slice_index b 0 * slice_index b k) v w
            (c.loop-i.invariant.each k (let bound : k < length c.as_slice-weights.result.now = subst (λ l. k < length l) (sym w) lt in omega (arith, bound, c.loop-i-test.false))),
      );
    }
