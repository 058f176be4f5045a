use Rattle.std.proofs.Common.{arith, false, length, subst, sym, true, ◌+◌, ◌≡◌, ◌≤◌}
use Rattle.order_change.specs.Lists.{IsListing}
use Rattle.order_change.proofs.Listed.{AreFew_listed, AreMultiplied_all, AreMultiplied_past, AreStandard_listed}
use Rattle.order_change.proofs.enumeration.standard_monomials.Goals.{then-at-len+in_ok-add_multiples, else-at-len}
use Rattle.monomial_orders.specs.Kept.{monomials}
use Rattle.order_change.proofs.enumeration.standard_monomials.Goals as goal

pub loop-at-preserved : goal.loop-at-preserved
loop-at-preserved c =
    let ws = c.args.weights.now in
    let n = length ws in
    let L = monomials n c.args.leads.now in
    let at = c.loop-at.at in
    elim c.if-at-len.branch [
      | then-at-len+in_ok-add_multiples w ↦
          subst (λ z. IsListing n ws L z.items (at + 1)) (sym w.found-is)
          (record { listed = w.in_ok-add_multiples.ensures.listed; multiplied = w.in_ok-add_multiples.ensures.multiplied })
      | else-at-len w ↦
          subst (λ z. IsListing n ws L z.items (at + 1)) (sym w.found-is)
          (record {
            listed = c.loop-at.invariant.listed;
            multiplied = AreMultiplied_past n L c.loop-at.found.items at (omega (arith, c.len.ensures, w.if-at-len.false)) c.loop-at.invariant.multiplied;
          })
    ]

pub returns-clause-standard : goal.returns-clause-standard
returns-clause-standard c =
    let ws = c.args.weights.now in
    let n = length ws in
    let L = monomials n c.args.leads.now in
    let xs = c.loop-at.found.items in
    let at = c.loop-at.at in
    let le : length xs ≤ at = omega (arith, c.loop-at.invariant.listed.few, c.loop-at-test.false) in
    AreStandard_listed n ws L xs c.loop-at.invariant.listed (AreMultiplied_all n L xs at le c.loop-at.invariant.multiplied)

pub returns-clause-few : goal.returns-clause-few
returns-clause-few c =
    let ws = c.args.weights.now in
    let n = length ws in
    let L = monomials n c.args.leads.now in
    let xs = c.loop-at.found.items in
    let at = c.loop-at.at in
    let le : length xs ≤ at = omega (arith, c.loop-at.invariant.listed.few, c.loop-at-test.false) in
    AreFew_listed n ws L xs c.loop-at.invariant.listed (AreMultiplied_all n L xs at le c.loop-at.invariant.multiplied)
    (λ inf. let t : false ≡ true = c.if-is_infinite.ensures.1 inf in cc)

pub is_infinite-requires : goal.is_infinite-requires
is_infinite-requires c = c.requires.leads

pub add_multiples-requires-clause-leads : goal.add_multiples-requires-clause-leads
add_multiples-requires-clause-leads c = c.requires.leads
