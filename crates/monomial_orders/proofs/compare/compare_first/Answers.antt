use Rattle.std.proofs.Common.{List, ap, ap₂, arith, get_or, length, min, ℕ, ◌-◌, ◌<◌, ◌∙◌, ◌≡◌}
use Rattle.std.specs.Ordering.{nat_cmp}
use Rattle.monomials.specs.Exponents.{exponents_of}
use Rattle.monomials.specs.Weights.{weighted_degree}
use Rattle.orders.specs.MonomialOrders.{first_variables}
use Rattle.monomial_orders.proofs.Comparing.{first_by_degree, first_by_last, first_ties}
use Rattle.monomial_orders.proofs.compare.compare_first.Goals as goal

-- a degree that is kept has 32 bits
degree_fits :
    (ws xs ys us vs : List ℕ) (d : ℕ) → us ≡ xs → vs ≡ ys → d ≡ weighted_degree ws (exponents_of (length xs) ys) → d < 4294967296
    → weighted_degree ws (exponents_of (length us) vs) < 4294967296
degree_fits ws xs ys us vs d e f h lt =
    omega (arith, h, ap₂ (λ xs ys. weighted_degree ws (exponents_of (length xs) ys)) e f, lt)

pub compare_totals-requires-clause-left : goal.compare_totals-requires-clause-left
compare_totals-requires-clause-left c =
    let xs = c.args.a.now.exponents in
    degree_fits c.args.weights.now xs xs c.exponents-left.result.now c.exponents-left.result.now c.args.a.now.degree c.exponents-left.ensures.value
    c.exponents-left.ensures.value c.requires.left.degree c.narrow.ensures

pub compare_totals-requires-clause-right : goal.compare_totals-requires-clause-right
compare_totals-requires-clause-right c =
    let xs = c.args.a.now.exponents in
    degree_fits c.args.weights.now xs c.args.b.now.exponents c.exponents-left.result.now c.exponents-right.result.now c.args.b.now.degree c.exponents-left.ensures.value
    c.exponents-right.ensures.value c.requires.right.degree c.narrow-2.ensures

pub returns-then-n-eq0 : goal.returns-then-n-eq0
returns-then-n-eq0 c =
    first_ties c.args.weights.now c.args.a.now.exponents c.args.b.now.exponents c.args.k c.min.result c.differing-n.result
    (record {
      variables = c.requires.variables;
      clamped = c.min.ensures ∙ ap (min c.args.k) c.variables.ensures;
      differences = c.differing-n.ensures;
    })
    c.if-n-eq0.true

pub returns-in-Equal : goal.returns-in-Equal
returns-in-Equal c =
    let ws = c.args.weights.now in
    let n = c.differing-n.result in
    first_by_last ws c.args.a.now.exponents c.args.b.now.exponents c.args.k c.min.result n c.cmp.result
    (record {
      variables = c.requires.variables;
      clamped = c.min.ensures ∙ ap (min c.args.k) c.variables.ensures;
      differences = c.differing-n.ensures;
    })
    (omega (arith, c.if-n-eq0.false))
    (c.in-Equal.ensures
    ∙ ap₂ (λ us vs. nat_cmp (weighted_degree ws (first_variables n (exponents_of (length us) us))) (weighted_degree ws (first_variables n (exponents_of (length us) vs))))
    c.exponents-left.ensures.value c.exponents-right.ensures.value)
    (c.cmp.ensures ∙ ap₂ (λ us vs. nat_cmp (get_or us (n - 1) 0) (get_or vs (n - 1) 0)) c.exponents-right.ensures.value c.exponents-left.ensures.value)

pub returns-in_default : goal.returns-in_default
returns-in_default c =
    let ws = c.args.weights.now in
    let n = c.differing-n.result in
    first_by_degree ws c.args.a.now.exponents c.args.b.now.exponents c.args.k c.min.result n c.compare_totals.result
    (record {
      variables = c.requires.variables;
      clamped = c.min.ensures ∙ ap (min c.args.k) c.variables.ensures;
      differences = c.differing-n.ensures;
    })
    (omega (arith, c.if-n-eq0.false))
    (c.compare_totals.ensures
    ∙ ap₂ (λ us vs. nat_cmp (weighted_degree ws (first_variables n (exponents_of (length us) us))) (weighted_degree ws (first_variables n (exponents_of (length us) vs))))
    c.exponents-left.ensures.value c.exponents-right.ensures.value)
    c.in_default.not-Equal
