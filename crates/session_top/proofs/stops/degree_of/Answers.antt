use Rattle.std.proofs.Common.{ap, ap₂, arith, drop, get_or, length, rules, ◌*◌, ◌+◌, ◌<◌, ◌∙◌, ◌≡◌}
use Rattle.monomials.specs.Exponents.{exponents_of}
use Rattle.monomials.specs.Weights.{first_weight, weighted_degree}
use Rattle.monomial_orders.proofs.Totals.{weighted_sum, weighted_sum_is}
use Rattle.session_top.proofs.Degrees.{product_small, sum_from, total_end, total_step}
use Rattle.session_top.proofs.stops.degree_of.Goals as goal

pub loop-k-preserved : goal.loop-k-preserved
loop-k-preserved c =
    let ws = c.args.weights.now in
    let xs = c.exponents-exponents.result.now in
    let k = c.loop-k.k in
    let weight : c.from.result ≡ first_weight (drop k ws) = c.from.ensures ∙ c.weight_at.ensures in
    let place : c.from-in-loop-k.result ≡ get_or xs k 0 = c.from-in-loop-k.ensures in
    let product = ap₂ ◌*◌ weight place in
    let w : c.weight_at.result < 256 = search rules in
    let x : get_or xs k 0 < 65536 = search rules in
    let most = product_small c.from.result c.from-in-loop-k.result (omega arith) (omega arith) in
    record {
      total =
          ap (λ z. c.loop-k.degree + z + sum_from ws xs (k + 1)) product
          ∙ total_step ws xs k c.loop-k.degree (weighted_sum ws xs) (omega arith) c.loop-k.invariant.total;
      small = omega (arith, most, c.loop-k.invariant.small);
    }

pub returns-clause-value : goal.returns-clause-value
returns-clause-value c =
    let ws = c.args.weights.now in
    let xs = c.exponents-exponents.result.now in
    total_end ws xs c.loop-k.k c.loop-k.degree (omega arith) c.loop-k.invariant.total ∙ weighted_sum_is ws xs
    ∙ ap (λ ys. weighted_degree ws (exponents_of (length ys) ys)) c.exponents-exponents.ensures.value
