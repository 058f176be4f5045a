use Rattle.std.proofs.Common.{IfNone, IfSome, get_or, length, subst}
use Rattle.monomials.specs.Exponents.{exponents_of, unit}
use Rattle.change_laws.specs.Standard.{Has, IsStandard}
use Rattle.order_change.proofs.Borders.{unit_divisor}
use Rattle.order_change.proofs.Items.{unit_by}
use Rattle.order_change.specs.Tables.{IsFormOver}
use Rattle.monomial_orders.specs.Kept.{monomials}
use Rattle.order_change.proofs.table.form_of_one.Goals as goal

pub unreachable-requires : goal.unreachable-requires
unreachable-requires c =
    let ring = c.args.ring.now in
    let n = length ring.weights in
    let L = monomials n c.args.leads.now in
    let is = unit_by c.len.result n c.in_ok-one.one.exponents c.len.ensures c.in_ok-one.ensures.ok in
    let free = subst (λ z. IsStandard L z → ⊥) is (subst (λ z. IfNone z (IsStandard L (exponents_of n c.in_ok-one.one.exponents) → ⊥)) c.in-None.is c.in_ok-form.ensures.free) in
    let other = subst (λ z. Has L z → ⊥) is (subst (λ z. IfNone z (Has L (exponents_of n c.in_ok-one.one.exponents) → ⊥)) c.in-None.is c.in_ok-form.ensures.other) in
    free (λ k lt d. other (k, lt, unit_divisor (get_or L k (unit n)) d))

pub returns : goal.returns
returns c =
    let ring = c.args.ring.now in
    let n = length ring.weights in
    let is = unit_by c.len.result n c.in_ok-one.one.exponents c.len.ensures c.in_ok-one.ensures.ok in
    subst (λ z. IsFormOver n ring c.args.basis.now c.args.standard.now z c.in-Some.form) is
    (subst (λ z. IfSome z (IsFormOver n ring c.args.basis.now c.args.standard.now (exponents_of n c.in_ok-one.one.exponents))) c.in-Some.is c.in_ok-form.ensures.some)

pub known_form-requires-clause-given : goal.known_form-requires-clause-given
known_form-requires-clause-given c = c.requires
