use Rattle.std.proofs.Common.{false, get_or, length, sym, true, ℕ, ◌∙◌, ◌≡◌}
use Rattle.monomials.specs.Exponents.{unit}
use Rattle.change_laws.specs.Standard.{power}
use Rattle.order_change.proofs.Items.{item_at, one_more}
use Rattle.monomial_orders.specs.Kept.{monomials}
use Rattle.order_change.proofs.leads.has_power.Goals as goal

pub loop-lead-preserved : goal.loop-lead-preserved
loop-lead-preserved c =
    let n = length c.args.weights.now in
    let g = c.lead-item.result in
    let i = c.loop-lead.lead-index in
    one_more (λ k. (a : ℕ) → get_or (monomials n c.args.leads.now) k (unit n) ≡ power n c.args.i a → ⊥) i c.loop-lead.invariant
    (λ a e. let t : false ≡ true = c.if-is_power.ensures.1 (a, sym (item_at n c.args.leads.now i g c.loop-lead-test.true c.lead-item.is) ∙ e) in cc)

pub is_power-requires-clause-index : goal.is_power-requires-clause-index
is_power-requires-clause-index c = c.requires.index
