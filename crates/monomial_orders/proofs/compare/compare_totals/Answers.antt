use Rattle.std.proofs.Common.{ap, ap₂, arith, sym, take, ◌*◌, ◌+◌, ◌<◌, ◌∙◌, ◌≡◌, ◌≤◌}
use Rattle.std.specs.Ordering.{nat_cmp}
use Rattle.monomials.specs.Exponents.{exponents_of}
use Rattle.monomials.specs.Weights.{weighted_degree}
use Rattle.orders.specs.MonomialOrders.{first_variables}
use Rattle.monomial_orders.proofs.Comparing.{first_sum}
use Rattle.monomial_orders.proofs.Totals.{more_fits, total_step, weighted_sum}
use Rattle.monomial_orders.proofs.compare.compare_totals.Goals as goal

pub overflow_add-left : goal.overflow_add-left
overflow_add-left c =
    let ws = c.args.weights.now in
    let xs = c.args.a.now in
    let k = c.loop-k.k in
    let e = ap₂ ◌*◌ c.from-weight.ensures c.from.ensures in
    record {
      fits =
          omega (
            arith,
            e,
            more_fits ws xs k c.loop-k.left c.requires.weights c.requires.positive (omega (arith, c.loop-k-test.true, c.requires.inside))
                c.loop-k.invariant.left,
            c.requires.left,
          );
    }

pub overflow_add-right : goal.overflow_add-right
overflow_add-right c =
    let ws = c.args.weights.now in
    let ys = c.args.b.now in
    let k = c.loop-k.k in
    let e = ap₂ ◌*◌ c.from-weight.ensures c.from-in-loop-k.ensures in
    let h = ap (λ n. weighted_degree ws (exponents_of n ys)) c.requires.variables in
    record {
      fits =
          omega (
            arith,
            e,
            h,
            more_fits ws ys k c.loop-k.right (c.requires.weights ∙ c.requires.variables) c.requires.positive
                (omega (arith, c.loop-k-test.true, c.requires.inside, c.requires.variables)) c.loop-k.invariant.right,
            c.requires.right,
          );
    }

pub loop-k-preserved : goal.loop-k-preserved
loop-k-preserved c =
    let ws = c.args.weights.now in
    let xs = c.args.a.now in
    let ys = c.args.b.now in
    let k = c.loop-k.k in record {
      left =
          ap (λ z. c.loop-k.left + z) (ap₂ ◌*◌ c.from-weight.ensures c.from.ensures)
          ∙ total_step ws xs k c.loop-k.left c.requires.weights c.requires.positive (omega (arith, c.loop-k-test.true, c.requires.inside))
          c.loop-k.invariant.left;
      right =
          ap (λ z. c.loop-k.right + z) (ap₂ ◌*◌ c.from-weight.ensures c.from-in-loop-k.ensures)
          ∙ total_step ws ys k c.loop-k.right (c.requires.weights ∙ c.requires.variables) c.requires.positive
          (omega (arith, c.loop-k-test.true, c.requires.inside, c.requires.variables)) c.loop-k.invariant.right;
    }

pub returns : goal.returns
returns c =
    let ws = c.args.weights.now in
    let xs = c.args.a.now in
    let ys = c.args.b.now in
    let n = c.args.n in
    let at : c.loop-k.k ≡ n = omega (arith, c.loop-k-test.false, c.loop-k.auto.k-end) in
    c.cmp.ensures
    ∙ ap₂ nat_cmp
    (c.loop-k.invariant.left ∙ ap (λ k. weighted_sum (take k ws) (take k xs)) at ∙ first_sum ws xs n c.requires.inside)
    (c.loop-k.invariant.right ∙ ap (λ k. weighted_sum (take k ws) (take k ys)) at
    ∙ first_sum ws ys n (omega (arith, c.requires.inside, c.requires.variables))
    ∙ ap (λ j. weighted_degree ws (first_variables n (exponents_of j ys))) (sym c.requires.variables))
