use Rattle.std.proofs.Common.{ap, ap₂, arith, get_or, mul-le-mul, rules, ◌*◌, ◌+◌, ◌<◌, ◌∙◌, ◌≡◌, ◌≤◌}
use Rattle.std.proofs.lemmas.List.{take_all}
use Rattle.monomial_orders.proofs.Totals.{total_step, weighted_sum, weighted_sum_is}
use Rattle.monomial_orders.proofs.places.total.Goals as goal

pub loop-k-preserved : goal.loop-k-preserved
loop-k-preserved c =
    let ws = c.args.weights.now in
    let xs = c.args.a.now in
    let k = c.loop-k.k in
    let e : c.from-degree.result ≡ get_or ws k 0 * get_or xs k 0 = c.from-degree.ensures ∙ ap₂ ◌*◌ c.from.ensures c.from-in-loop-k.ensures in
    let w : get_or ws k 0 < 256 = search rules in
    let x : get_or xs k 0 < 65536 = search rules in
    let w1 : get_or ws k 0 ≤ 255 = omega arith in
    let x1 : get_or xs k 0 ≤ 65535 = omega arith in
    let m : get_or ws k 0 * get_or xs k 0 ≤ 255 * 65535 = mul-le-mul w1 x1 in
    record {
      total =
          ap (λ z. c.loop-k.degree + z) e
          ∙ total_step ws xs k c.loop-k.degree c.requires.variables c.requires.positive (omega arith) c.loop-k.invariant.total;
      small = omega (arith, e, m, c.loop-k.invariant.small);
    }

pub returns-clause-value : goal.returns-clause-value
returns-clause-value c =
    let ws = c.args.weights.now in
    let xs = c.args.a.now in
    c.loop-k.invariant.total
    ∙ ap₂ weighted_sum (take_all c.loop-k.k ws (omega arith)) (take_all c.loop-k.k xs (omega arith))
    ∙ weighted_sum_is ws xs
