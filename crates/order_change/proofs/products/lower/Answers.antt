use Rattle.std.proofs.Common.{IfSome, Less, false, length, refl, subst, sym, true, ◌≡◌}
use Rattle.monomials.specs.Exponents.{exponents_of}
use Rattle.monomial_orders.specs.Comparisons.{comparison}
use Rattle.monomial_orders.specs.Laws.{comparison_order}
use Rattle.order_change.proofs.Orders.{less_not_back, less_not_itself}
use Rattle.order_change.specs.declared.products.Candidate.{Candidate}
use Rattle.order_change.proofs.products.lower.Goals as goal

pub returns-in-None-clause-second : goal.returns-in-None-clause-second
returns-in-None-clause-second c =
    let ws = c.args.weights.now in
    let n = length ws in
    less_not_itself (comparison c.args.order ws n) (comparison_order c.args.order ws n) (exponents_of n c.args.second.monomial.exponents)

pub returns-then-is_below-clause-first : goal.returns-then-is_below-clause-first
returns-then-is_below-clause-first c =
    let ws = c.args.weights.now in
    let n = length ws in
    let order = c.args.order in
    subst (λ z. IfSome z (λ (x : Candidate). comparison order ws n (exponents_of n x.monomial.exponents) (exponents_of n c.args.second.monomial.exponents) ≡ Less → ⊥)) (sym c.in-Some.is)
    (less_not_back (comparison order ws n) (comparison_order order ws n) (exponents_of n c.args.second.monomial.exponents) (exponents_of n c.in-Some.other.monomial.exponents)
    (c.if-is_below.ensures.0 refl))

pub returns-then-is_below-clause-second : goal.returns-then-is_below-clause-second
returns-then-is_below-clause-second c =
    let ws = c.args.weights.now in
    let n = length ws in
    less_not_itself (comparison c.args.order ws n) (comparison_order c.args.order ws n) (exponents_of n c.args.second.monomial.exponents)

pub returns-else-is_below-clause-first : goal.returns-else-is_below-clause-first
returns-else-is_below-clause-first c =
    let ws = c.args.weights.now in
    let n = length ws in
    let order = c.args.order in
    subst (λ z. IfSome z (λ (x : Candidate). comparison order ws n (exponents_of n x.monomial.exponents) (exponents_of n c.in-Some.other.monomial.exponents) ≡ Less → ⊥)) (sym c.in-Some.is)
    (less_not_itself (comparison order ws n) (comparison_order order ws n) (exponents_of n c.in-Some.other.monomial.exponents))

pub returns-else-is_below-clause-second : goal.returns-else-is_below-clause-second
returns-else-is_below-clause-second c = λ d. let t : false ≡ true = c.if-is_below.ensures.1 d in cc
