use Rattle.std.proofs.Common.{ap, ap₂, arith, get_or, length, mul-le-mul, rules, subst, sym, take, ◌*◌, ◌+◌, ◌<◌, ◌∙◌, ◌≡◌, ◌≤◌}
use Rattle.monomials.specs.Exponents.{exponents_of}
use Rattle.monomials.specs.Weights.{weighted_degree}
use Rattle.orders.specs.MonomialOrders.{first_variables}
use Rattle.monomial_orders.proofs.Comparing.{first_sum}
use Rattle.monomial_orders.proofs.Totals.{total_step, weighted_sum}
use Rattle.induced_leads.specs.Heads.{summed}
use Rattle.induced_leads.proofs.Summing.{length-summed}
use Rattle.induced_leads.proofs.comparing.total.Goals as goal

pub loop-k-preserved : goal.loop-k-preserved
loop-k-preserved c =
    let ws = c.args.weights.now in
    let xs = summed c.args.a.now c.args.e.now in
    let k = c.loop-k.k in
    let same : length ws ≡ length xs = sym c.requires.summands.count ∙ sym (length-summed c.args.a.now c.args.e.now) in
    let w : get_or ws k 0 < 256 = search rules in
    let x : get_or xs k 0 < 562949953421312 = subst (λ z. z < 562949953421312) c.place.ensures.sum c.place.ensures.low in
    let w1 : get_or ws k 0 ≤ 255 = omega arith in
    let x1 : get_or xs k 0 ≤ 562949953421312 = omega arith in
    let m : get_or ws k 0 * get_or xs k 0 ≤ 255 * 562949953421312 = mul-le-mul w1 x1 in
    let e : c.from.result * c.from-in-loop-k.result ≡ get_or ws k 0 * get_or xs k 0 = ap₂ ◌*◌ c.from.ensures (c.from-in-loop-k.ensures ∙ c.place.ensures.sum) in
    record {
      total =
          ap₂ (λ y z. c.loop-k.degree + y * z) c.from.ensures (c.from-in-loop-k.ensures ∙ c.place.ensures.sum)
          ∙ total_step ws xs k c.loop-k.degree same c.requires.positive (omega (arith, c.loop-k-test.true, c.requires.inside, length-summed c.args.a.now c.args.e.now)) c.loop-k.invariant.total;
      small = omega (arith, e, m, c.loop-k.invariant.small);
    }

pub returns : goal.returns
returns c =
    let ws = c.args.weights.now in
    let xs = summed c.args.a.now c.args.e.now in
    let n = c.args.n in
    let at : c.loop-k.k ≡ n = omega (arith, c.loop-k-test.false, c.loop-k.auto.k-end) in
    c.loop-k.invariant.total
    ∙ ap (λ k. weighted_sum (take k ws) (take k xs)) at
    ∙ first_sum ws xs n (omega (arith, c.requires.inside, length-summed c.args.a.now c.args.e.now))
    ∙ ap (λ j. weighted_degree ws (first_variables n (exponents_of j xs))) (length-summed c.args.a.now c.args.e.now)
