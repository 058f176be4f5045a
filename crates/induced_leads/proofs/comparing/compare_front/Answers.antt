use Rattle.std.proofs.Common.{ap, ap₂, arith, min, sym, ◌∙◌}
use Rattle.std.specs.Ordering.{nat_cmp}
use Rattle.monomials.specs.Exponents.{exponents_of}
use Rattle.monomials.specs.Weights.{weighted_degree}
use Rattle.orders.specs.MonomialOrders.{first_variables}
use Rattle.orders.specs.WeightedOrders.{weighted_grevlex}
use Rattle.monomial_orders.proofs.Comparing.{AreCompared, first_by_degree, first_by_last, first_ties}
use Rattle.induced_leads.specs.Heads.{summed}
use Rattle.induced_leads.proofs.Summing.{length-summed, same-sums}
use Rattle.induced_leads.proofs.comparing.compare_front.Goals as goal

pub returns-then-n-eq0 : goal.returns-then-n-eq0
returns-then-n-eq0 c =
    let ws = c.args.weights.now in
    let k = c.args.k in
    let xs = summed c.args.a.now c.args.e.now in
    let ys = summed c.args.b.now c.args.f.now in
    let size = length-summed c.args.a.now c.args.e.now in
    let compared : AreCompared ws xs ys k c.min.result c.differing-n.result =
    record {
      variables = same-sums c.args.a.now c.args.e.now c.args.b.now c.args.f.now (c.requires.left.count ∙ sym c.requires.right.count);
      clamped = c.min.ensures ∙ ap (min k) (sym size);
      differences = c.differing-n.ensures;
    } in
    first_ties ws xs ys k c.min.result c.differing-n.result compared c.if-n-eq0.true
    ∙ ap (λ j. weighted_grevlex ws (first_variables k (exponents_of j xs)) (first_variables k (exponents_of j ys))) size

pub returns-in-Equal : goal.returns-in-Equal
returns-in-Equal c =
    let ws = c.args.weights.now in
    let k = c.args.k in
    let n = c.differing-n.result in
    let xs = summed c.args.a.now c.args.e.now in
    let ys = summed c.args.b.now c.args.f.now in
    let size = length-summed c.args.a.now c.args.e.now in
    let as_many = c.requires.left.count ∙ sym c.requires.right.count in
    let compared : AreCompared ws xs ys k c.min.result n =
    record {
      variables = same-sums c.args.a.now c.args.e.now c.args.b.now c.args.f.now as_many;
      clamped = c.min.ensures ∙ ap (min k) (sym size);
      differences = c.differing-n.ensures;
    } in
    first_by_last ws xs ys k c.min.result n c.cmp-in-Equal.result compared (omega (arith, c.if-n-eq0.false))
    (c.in-Equal.ensures
    ∙ ap₂ nat_cmp
    (c.total.ensures ∙ ap (λ j. weighted_degree ws (first_variables n (exponents_of j xs))) (sym size))
    (c.total-2.ensures ∙ ap (λ j. weighted_degree ws (first_variables n (exponents_of j ys))) (sym as_many ∙ sym size)))
    (c.cmp-in-Equal.ensures ∙ ap₂ nat_cmp c.place-right.ensures.sum c.place-left.ensures.sum)
    ∙ ap (λ j. weighted_grevlex ws (first_variables k (exponents_of j xs)) (first_variables k (exponents_of j ys))) size

pub returns-in_default : goal.returns-in_default
returns-in_default c =
    let ws = c.args.weights.now in
    let k = c.args.k in
    let n = c.differing-n.result in
    let xs = summed c.args.a.now c.args.e.now in
    let ys = summed c.args.b.now c.args.f.now in
    let size = length-summed c.args.a.now c.args.e.now in
    let as_many = c.requires.left.count ∙ sym c.requires.right.count in
    let compared : AreCompared ws xs ys k c.min.result n =
    record {
      variables = same-sums c.args.a.now c.args.e.now c.args.b.now c.args.f.now as_many;
      clamped = c.min.ensures ∙ ap (min k) (sym size);
      differences = c.differing-n.ensures;
    } in
    first_by_degree ws xs ys k c.min.result n c.cmp.result compared (omega (arith, c.if-n-eq0.false))
    (c.cmp.ensures
    ∙ ap₂ nat_cmp
    (c.total.ensures ∙ ap (λ j. weighted_degree ws (first_variables n (exponents_of j xs))) (sym size))
    (c.total-2.ensures ∙ ap (λ j. weighted_degree ws (first_variables n (exponents_of j ys))) (sym as_many ∙ sym size)))
    c.in_default.not-Equal
    ∙ ap (λ j. weighted_grevlex ws (first_variables k (exponents_of j xs)) (first_variables k (exponents_of j ys))) size
