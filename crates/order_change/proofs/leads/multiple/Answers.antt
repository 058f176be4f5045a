use Rattle.std.proofs.Common.{ap, length, ◌∙◌}
use Rattle.monomials.specs.Exponents.{exponents_of, times}
use Rattle.order_change.proofs.Items.{product_by, variable_power}
use Rattle.order_change.proofs.leads.multiple.Goals as goal

pub returns-in-Ok-clause-product : goal.returns-in-Ok-clause-product
returns-in-Ok-clause-product c =
    let n = length c.args.weights.now in
    let v = c.in_ok-variable.ensures.ok in
    let m = exponents_of n c.args.m.now.exponents in
    product_by n c.in_ok-variable.variable.exponents c.args.m.now.exponents c.in-Ok.product.exponents v.variables c.in-Ok.ensures.ok
    ∙ ap (λ z. times z m) (v.exponents ∙ variable_power n c.args.i)
