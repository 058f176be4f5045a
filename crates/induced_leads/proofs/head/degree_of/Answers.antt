use Rattle.std.proofs.Common.{ap₂, arith, get_or, mul-le-mul, rules, ◌*◌, ◌+◌, ◌<◌, ◌∙◌, ◌≡◌, ◌≤◌}
use Rattle.std.proofs.lemmas.List.{take_all}
use Rattle.monomial_orders.proofs.Totals.{total_step, weighted_sum, weighted_sum_is}
use Rattle.induced_leads.proofs.head.degree_of.Goals as goal

pub loop-k-preserved : goal.loop-k-preserved
loop-k-preserved c =
    let ws = c.args.weights.now in
    let xs = c.args.e.now in
    let k = c.loop-k.k in
    let w : get_or ws k 0 < 256 = search rules in
    let x : get_or xs k 0 < 281474976710656 = c.requires.low k in
    let w1 : get_or ws k 0 ≤ 255 = omega arith in
    let x1 : get_or xs k 0 ≤ 281474976710656 = omega arith in
    let m : get_or ws k 0 * get_or xs k 0 ≤ 255 * 281474976710656 = mul-le-mul w1 x1 in
    let e : c.from.result * c.from-in-loop-k.result ≡ get_or ws k 0 * get_or xs k 0 = ap₂ ◌*◌ c.from.ensures c.from-in-loop-k.ensures in
    record {
      total =
          ap₂ (λ y z. c.loop-k.degree + y * z) c.from.ensures c.from-in-loop-k.ensures
          ∙ total_step ws xs k c.loop-k.degree c.requires.variables c.requires.positive (omega arith) c.loop-k.invariant.total;
      small = omega (arith, e, m, c.loop-k.invariant.small);
    }

pub returns : goal.returns
returns c =
    let ws = c.args.weights.now in
    let xs = c.args.e.now in
    c.loop-k.invariant.total
    ∙ ap₂ weighted_sum (take_all c.loop-k.k ws (omega (arith, c.requires.variables))) (take_all c.loop-k.k xs (omega arith))
    ∙ weighted_sum_is ws xs
