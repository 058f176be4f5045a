use Rattle.std.proofs.Common.{[], ap, length, refl, subst, subst₂, ◌++◌, ◌<◌, ◌∙◌, ◌∷◌, ◌≡◌}
use Rattle.monomial_orders.specs.Kept.{IsWeighed}
use Rattle.monomial_orders.specs.Monomials.{IsMonomial, variable}
use Rattle.term_lists.specs.Rings.{variables}
use Rattle.term_lists.specs.declared.key.Key.{Key}
use Rattle.poly_value.proofs.Sums.{variable_term}
use Rattle.poly_value.proofs.parts.variable_part.Goals as goal

pub returns : goal.returns
returns g c =
    let ring = g.F.Frame.over c.args.frame.now in
    let m = c.in_ok-monomial.monomial in
    let key : Key = record { position = 0; monomial = m } in
    let pos : 1 < ring.modulus.value = subst (λ r. 1 < r.modulus.value) c.ring-ring.ensures c.domain.ensures.above_one in
    let many : length c.ring-ring.result.now.weights ≡ variables ring = ap (λ r. length r.weights) c.ring-ring.ensures ∙ ring.weighted in
    variable_term ring c.args.i key c.push.new.self.items pos
    (c.in_ok-push.ensures.items ∙ ap (λ xs. xs ++ (key, 1) ∷ []) c.new-terms.ensures.items) refl
    (subst₂ (λ k ws. IsWeighed k ws m) many (ap (λ r. r.weights) c.ring-ring.ensures) c.in_ok-monomial.ensures.weighed)
    (subst (λ k. IsMonomial k (variable k c.args.i) m.exponents) many c.in_ok-monomial.ensures.ok)
