use Rattle.std.proofs.Common.{List, Ordering, ap, ap₂, length, sym, ℕ, ◌∙◌, ◌≡◌}
use Rattle.monomials.specs.Exponents.{exponents_of}
use Rattle.orders.specs.MonomialOrders.{first_variables}
use Rattle.orders.specs.WeightedOrders.{weighted_grevlex}
use Rattle.monomial_orders.proofs.Comparing.{elimination_first, elimination_then}
use Rattle.monomial_orders.specs.Comparisons.{comparison}
use Rattle.term_lists.specs.Rings.{variables}
use Rattle.induced_leads.specs.Heads.{summed}
use Rattle.induced_leads.proofs.comparing.compare_products.Goals as goal

-- compares the first k variables of two products
abbrev front : List ℕ → ℕ → ℕ → List ℕ → List ℕ → List ℕ → List ℕ → Ordering
front ws k n us es vs fs =
    weighted_grevlex ws (first_variables k (exponents_of n (summed us es))) (first_variables k (exponents_of n (summed vs fs)))

front_same :
    (k n : ℕ) (ws ws' us us' es es' vs vs' fs fs' : List ℕ) → ws ≡ ws' → us ≡ us' → es ≡ es' → vs ≡ vs' → fs ≡ fs' → length us' ≡ n
    → front ws k (length us) us es vs fs ≡ front ws' k n us' es' vs' fs'
front_same k n ws ws' us us' es es' vs vs' fs fs' w u e v f size =
    ap₂ (λ ws us. front ws k (length us) us es vs fs) w u
    ∙ ap₂ (λ es vs. front ws' k (length us') us' es vs fs) e v
    ∙ ap₂ (λ fs n. front ws' k n us' es' vs' fs) f size

pub returns-in-Equal : goal.returns-in-Equal
returns-in-Equal c =
    let ring = c.args.ring.now in
    let n = variables ring in
    let us = c.args.a.now.exponents in
    let es = c.args.e.now.exponents.items in
    let vs = c.args.b.now.exponents in
    let fs = c.args.f.now.exponents.items in
    elimination_then ring.weights c.in-Elim.k (exponents_of n (summed us es)) (exponents_of n (summed vs fs)) c.compare_graded-in-Equal.result
    (c.in-Equal.ensures
    ∙ front_same c.in-Elim.k n _ ring.weights _ us _ es _ vs _ fs c.as_slice.ensures.value c.exponents-in-Elim.ensures.value c.deref-in-Elim.ensures.value
    c.exponents-in-Elim-2.ensures.value c.deref-in-Elim-2.ensures.value c.requires.left.variables)
    c.compare_graded-in-Equal.ensures
    ∙ ap (λ o. comparison o ring.weights n (exponents_of n (summed us es)) (exponents_of n (summed vs fs))) (sym c.in-Elim.is)

pub returns-in_default : goal.returns-in_default
returns-in_default c =
    let ring = c.args.ring.now in
    let n = variables ring in
    let us = c.args.a.now.exponents in
    let es = c.args.e.now.exponents.items in
    let vs = c.args.b.now.exponents in
    let fs = c.args.f.now.exponents.items in
    elimination_first ring.weights c.in-Elim.k (exponents_of n (summed us es)) (exponents_of n (summed vs fs)) c.compare_front.result
    (c.compare_front.ensures
    ∙ front_same c.in-Elim.k n _ ring.weights _ us _ es _ vs _ fs c.as_slice.ensures.value c.exponents-in-Elim.ensures.value c.deref-in-Elim.ensures.value
    c.exponents-in-Elim-2.ensures.value c.deref-in-Elim-2.ensures.value c.requires.left.variables)
    c.in_default.not-Equal
    ∙ ap (λ o. comparison o ring.weights n (exponents_of n (summed us es)) (exponents_of n (summed vs fs))) (sym c.in-Elim.is)
