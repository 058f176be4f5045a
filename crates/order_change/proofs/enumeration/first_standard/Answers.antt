use Rattle.std.proofs.Common.{ap, false, length, refl, subst, sym, true, [], ◌++◌, ◌∙◌, ◌∷◌, ◌≡◌}
use Rattle.monomial_orders.specs.Kept.{IsWeighed, monomials}
use Rattle.change_laws.specs.Standard.{IsStandard}
use Rattle.order_change.specs.Lists.{AreListed}
use Rattle.order_change.proofs.Items.{unit_by}
use Rattle.order_change.proofs.Listed.{AreListed_none, AreListed_one}
use Rattle.order_change.proofs.enumeration.first_standard.Goals as goal

pub returns-then-not-is_standard : goal.returns-then-not-is_standard
returns-then-not-is_standard c =
    let ws = c.args.weights.now in
    let n = length ws in
    let L = monomials n c.args.leads.now in
    let e = unit_by c.len.result n c.in_ok-one.one.exponents c.len.ensures c.in_ok-one.ensures.ok in
    subst (AreListed n ws L) (sym c.new-found.ensures.items)
    (AreListed_none n ws L (λ s. let t : false ≡ true = c.if-not-is_standard.ensures.1 (subst (IsStandard L) (sym e) s) in cc))

pub returns : goal.returns
returns c =
    let ws = c.args.weights.now in
    let n = length ws in
    let L = monomials n c.args.leads.now in
    let one = c.in_ok-one.one in
    let e = unit_by c.len.result n one.exponents c.len.ensures c.in_ok-one.ensures.ok in
    subst (AreListed n ws L) (sym (c.in_ok-push.ensures.items ∙ ap (λ z. z ++ one ∷ []) c.new-found.ensures.items))
    (AreListed_one n ws L one (subst (IsStandard L) e (c.if-not-is_standard.ensures.0 refl)) (subst (λ k. IsWeighed k ws one) c.len.ensures (c.in_ok-one.ensures.weighed ws)) e c.in_ok-one.ensures.degree)

pub is_standard-requires-clause-leads : goal.is_standard-requires-clause-leads
is_standard-requires-clause-leads c = c.requires.leads
