use Rattle.std.proofs.Common.{arith, false, get_or, length, refl, subst, sym, true, ◌+◌, ◌≡◌, ◌≤◌}
use Rattle.monomials.specs.Exponents.{exponents_of}
use Rattle.order_change.specs.Lists.{IsNew}
use Rattle.order_change.proofs.Listed.{IsMultiplying_done, IsMultiplying_push, IsMultiplying_skip, many}
use Rattle.order_change.specs.Lists.{IsMultiplying}
use Rattle.order_change.proofs.enumeration.add_multiples.Goals.{then-is_new+else-len-ge-MOST+in_ok-push, else-is_new}
use Rattle.monomial_orders.specs.Kept.{monomials}
use Rattle.order_change.proofs.enumeration.add_multiples.Goals as goal

pub returns-then-len-ge-MOST-clause-stop : goal.returns-then-len-ge-MOST-clause-stop
returns-then-len-ge-MOST-clause-stop c =
    let n = length c.args.weights.now in
    let L = monomials n c.args.leads.now in
    let xs = c.loop-i.found.items in
    let y = c.in_ok-product.product in
    many n c.args.weights.now L xs y c.loop-i.invariant.listed (omega (arith, c.len.ensures, c.if-len-ge-MOST.true))
    (subst (λ z. IsNew L (monomials n z) (exponents_of n y.exponents)) c.deref.ensures.value (c.if-is_new.ensures.0 refl))

pub loop-i-preserved : goal.loop-i-preserved
loop-i-preserved c =
    let ws = c.args.weights.now in
    let n = length ws in
    let L = monomials n c.args.leads.now in
    let xs = c.loop-i.found.items in
    let y = c.in_ok-product.product in
    let at = c.args.at in
    let i = c.loop-i.i in
    let m = c.index.result.now in
    let is : get_or xs at m ≡ m = sym c.index.ensures in
    elim c.if-is_new.branch [
      | then-is_new+else-len-ge-MOST+in_ok-push w ↦
          subst (λ z. IsMultiplying n ws L z.items at (i + 1)) (sym w.found-is)
          (subst (λ z. IsMultiplying n ws L z at (i + 1)) (sym w.in_ok-push.ensures.items)
          (IsMultiplying_push n ws L xs at i m y c.loop-i.invariant is c.in_ok-product.ensures.weighed c.in_ok-product.ensures.degree (omega (arith, w.len.ensures, w.if-len-ge-MOST.false))
          (subst (λ z. IsNew L (monomials n z) (exponents_of n y.exponents)) c.deref.ensures.value (w.if-is_new.ensures.0 refl)) c.in_ok-product.ensures.product))
      | else-is_new w ↦
          subst (λ z. IsMultiplying n ws L z.items at (i + 1)) (sym w.found-is)
          (IsMultiplying_skip n ws L xs at i m y c.loop-i.invariant is
          (λ new. let t : false ≡ true = w.if-is_new.ensures.1 (subst (λ z. IsNew L (monomials n z) (exponents_of n y.exponents)) (sym c.deref.ensures.value) new) in cc) c.in_ok-product.ensures.product)
    ]

pub returns-clause-multiplied : goal.returns-clause-multiplied
returns-clause-multiplied c =
    let ws = c.args.weights.now in
    let n = length ws in
    let le : n ≤ c.loop-i.i = omega arith in
    IsMultiplying_done n ws (monomials n c.args.leads.now) c.loop-i.found.items c.args.at c.loop-i.i c.loop-i.invariant le

pub is_new-requires-clause-leads : goal.is_new-requires-clause-leads
is_new-requires-clause-leads c = c.requires.leads
