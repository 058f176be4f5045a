use Rattle.std.proofs.Common.{ap, arith, length, ◌∙◌, ◌≡◌}
use Rattle.std.specs.Prelude.{◌^◌}
use Rattle.hilbert_laws.proofs.Recurrence.{series_nothing}
use Rattle.hilbert_laws.specs.Numerators.{series, size}
use Rattle.hilbert_series.proofs.Lists.{size_small, slice_small}
use Rattle.hilbert_series.proofs.Positions.{few_generators, one_position_more, slices_sum, sum_size}
use Rattle.hilbert_series.specs.Leads.{keys_of}
use Rattle.hilbert_series.proofs.leads.module_numerator.Goals as goal

pub loop-position-init : goal.loop-position-init
loop-position-init c =
    let ws = c.args.weights.now in
    record {
      numerator = λ d. ap (λ K. series ws K (length ws) d) c.new-sum.ensures.items ∙ series_nothing ws (length ws) d;
      small = let e : size c.new-sum.result.items ≡ 0 = ap size c.new-sum.ensures.items in omega (arith, e);
    }

pub plus_shifted-requires-clause-small_right : goal.plus_shifted-requires-clause-small_right
plus_shifted-requires-clause-small_right c =
    let ws = c.args.weights.now in
    (slice_small (length ws) ws c.in_ok-generators.generators.items c.in_ok-here.here.items c.as_slice-in-loop-position.result.now
    (few_generators (length ws) c.loop-position.position c.args.leads.now c.in_ok-generators.generators.items c.in_ok-generators.ensures.items
    (c.requires.few c.loop-position.position c.loop-position-test.true))
    c.in_ok-here.ensures.numerator c.as_slice-in-loop-position.ensures.value).1

pub loop-position-preserved : goal.loop-position-preserved
loop-position-preserved c =
    let ws = c.args.weights.now in
    let i = c.loop-position.position in
    let gs = c.in_ok-generators.generators.items in
    let same = slices_sum c.loop-position.sum.items c.in_ok-here.here.items c.as_slice.result.now c.as_slice-in-loop-position.result.now c.in_ok-sum.sum.items
    c.as_slice.ensures.value c.as_slice-in-loop-position.ensures.value c.in_ok-sum.ensures.sum in
    record {
      numerator = one_position_more (length ws) ws i (keys_of (length ws) c.args.leads.now) gs c.loop-position.sum.items c.in_ok-here.here.items
          c.in_ok-sum.sum.items
          c.in_ok-generators.ensures.items c.loop-position.invariant.numerator c.in_ok-here.ensures.numerator same;
      small = sum_size c.loop-position.sum.items c.in_ok-here.here.items c.in_ok-sum.sum.items i (2 ^ 120) same c.loop-position.invariant.small
          (size_small (length ws) ws gs c.in_ok-here.here.items
          (few_generators (length ws) i c.args.leads.now gs c.in_ok-generators.ensures.items (c.requires.few i c.loop-position-test.true))
          c.in_ok-here.ensures.numerator);
    }
