use Rattle.std.proofs.Common.{ap, ap₂, eq-eqb, eqb-true, get_or, length, refl, sym, ◌*◌, ◌∙◌, ◌≡◌}
use Rattle.monomials.specs.Exponents.{exponents_of}
use Rattle.monomials.specs.Weights.{weighted_degree}
use Rattle.change_laws.proofs.Powers.{is_power}
use Rattle.order_change.proofs.leads.is_power.Goals as goal

pub returns : goal.returns
returns c =
    let ws = c.args.weights.now in
    let n = length ws in
    let xs = c.args.m.now.exponents in
    let i = c.args.i in
    let h = is_power n ws xs i refl c.as_slice.ensures.positive c.requires.index in
    let e : c.degree.result ≡ weighted_degree ws (exponents_of n xs) = c.degree.ensures.value ∙ c.requires.monomial.degree in
    let w : c.from.result ≡ get_or ws i 0 = c.from.ensures ∙ ap (λ s. get_or s i 0) c.as_slice.ensures.value in
    let x : c.from-2.result ≡ get_or xs i 0 = c.from-2.ensures ∙ c.exponent.ensures in
    (λ t. h.0 (sym e ∙ eqb-true _ _ t ∙ ap₂ ◌*◌ w x), λ a. eq-eqb _ _ (e ∙ h.1 a ∙ sym (ap₂ ◌*◌ w x)))
