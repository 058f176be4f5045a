use Rattle.std.proofs.Common.{arith, false, length, refl, true, ℕ, ◌<◌, ◌≡◌, ◌≤◌}
use Rattle.change_laws.specs.Standard.{Has, power}
use Rattle.order_change.proofs.Items.{one_more}
use Rattle.monomial_orders.specs.Kept.{monomials}
use Rattle.order_change.proofs.leads.is_infinite.Goals as goal

pub loop-i-preserved : goal.loop-i-preserved
loop-i-preserved c =
    let n = length c.args.weights.now in
    one_more (λ v. (a : ℕ) × Has (monomials n c.args.leads.now) (power n v a)) c.loop-i.i c.loop-i.invariant (c.if-not-has_power.ensures.0 refl)

pub returns : goal.returns
returns c =
    let n = length c.args.weights.now in
    let le : n ≤ c.loop-i.i = omega arith in
    ((λ t. let q : false ≡ true = t in cc), λ inf. absurd (let lt : inf.0 < c.loop-i.i = (let l = inf.1 in omega (arith, l, le)) in let h = c.loop-i.invariant inf.0 lt in inf.2 h.0 h.1))

pub has_power-requires-clause-leads : goal.has_power-requires-clause-leads
has_power-requires-clause-leads c = c.requires
