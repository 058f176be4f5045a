use Rattle.std.proofs.Common.{[], length, subst, ℕ, ◌<◌, ◌∷◌, ◌≡◌}
use Rattle.std.specs.Prelude.{slice_index}
use Rattle.monomials.specs.Exponents.{Divides, exponents_of}
use Rattle.monomial_orders.specs.Monomials.{IsCofactor, IsQuotient}
use Rattle.order_change.proofs.Borders.{spare_by, spare_none}
use Rattle.order_change.proofs.Filling.{if_none, if_some}
use Rattle.order_change.specs.Tables.{IsSpare}
use Rattle.order_change.proofs.table.spare_of.Goals as goal

pub returns-in-Some-clause-some : goal.returns-in-Some-clause-some
returns-in-Some-clause-some c =
    let n = length c.args.weights.now in
    let m = c.args.m.now in
    let lead = c.args.lead.now in
    let q = subst (IsQuotient (length m.exponents) m lead) c.in-Some.is c.in_ok-rest.ensures.ok in
    let f : IsCofactor n m.exponents lead.exponents c.in-Some.rest.exponents = subst (λ z. IsCofactor z m.exponents lead.exponents c.in-Some.rest.exponents) c.requires.monomial.variables q.0 in
    if_some (λ j. (j < n) × (0 < slice_index c.in-Some.rest.exponents j)) (IsSpare n (exponents_of n lead.exponents ∷ []) (exponents_of n m.exponents)) c.first_variable-answer.result
    (λ j g. spare_by n (exponents_of n lead.exponents) (exponents_of n m.exponents) c.in-Some.rest.exponents j f.product g.0 g.1) c.first_variable-answer.ensures.some

pub returns-in-Some-clause-none : goal.returns-in-Some-clause-none
returns-in-Some-clause-none c =
    let n = length c.args.weights.now in
    let m = c.args.m.now in
    let lead = c.args.lead.now in
    let q = subst (IsQuotient (length m.exponents) m lead) c.in-Some.is c.in_ok-rest.ensures.ok in
    let f : IsCofactor n m.exponents lead.exponents c.in-Some.rest.exponents = subst (λ z. IsCofactor z m.exponents lead.exponents c.in-Some.rest.exponents) c.requires.monomial.variables q.0 in
    if_none ((j : ℕ) → j < n → slice_index c.in-Some.rest.exponents j ≡ 0)
    (Divides (exponents_of n lead.exponents) (exponents_of n m.exponents) → exponents_of n lead.exponents ≡ exponents_of n m.exponents) c.first_variable-answer.result
    (λ z d. spare_none n (exponents_of n lead.exponents) (exponents_of n m.exponents) c.in-Some.rest.exponents f.product z) c.first_variable-answer.ensures.none

pub returns-in-None-clause-none : goal.returns-in-None-clause-none
returns-in-None-clause-none c =
    let n = length c.args.weights.now in
    let m = c.args.m.now in
    let lead = c.args.lead.now in
    let q = subst (IsQuotient (length m.exponents) m lead) c.in-None.is c.in_ok-rest.ensures.ok in
    λ d. absurd (subst (λ z. Divides (exponents_of z lead.exponents) (exponents_of z m.exponents) → ⊥) c.requires.monomial.variables q d)
