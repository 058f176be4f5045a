use Rattle.std.proofs.Common.{ap, ap₂, arith, subst, sym, ◌∙◌}
use Rattle.std.specs.Ordering.{nat_cmp}
use Rattle.monomials.specs.Exponents.{exponents_of}
use Rattle.orders.specs.MonomialOrders.{reverse_lex}
use Rattle.monomial_orders.proofs.Comparing.{last_decides, last_ties}
use Rattle.monomial_orders.specs.Differences.{EndsDifferences}
use Rattle.induced_leads.specs.Heads.{summed}
use Rattle.induced_leads.proofs.Summing.{length-summed, same-sums}
use Rattle.induced_leads.proofs.comparing.compare_last.Goals as goal

pub returns-then-n-eq0 : goal.returns-then-n-eq0
returns-then-n-eq0 c =
    let xs = summed c.args.a.now c.args.e.now in
    let ys = summed c.args.b.now c.args.f.now in
    let size = length-summed c.args.a.now c.args.e.now in
    let s = subst (λ m. EndsDifferences m xs ys c.differing-n.result) (sym size) c.differing-n.ensures in
    sym (last_ties xs ys c.differing-n.result (same-sums c.args.a.now c.args.e.now c.args.b.now c.args.f.now (sym c.requires.right.count)) s c.if-n-eq0.true)
    ∙ ap (λ j. reverse_lex (exponents_of j xs) (exponents_of j ys)) size

pub returns : goal.returns
returns c =
    let xs = summed c.args.a.now c.args.e.now in
    let ys = summed c.args.b.now c.args.f.now in
    let size = length-summed c.args.a.now c.args.e.now in
    let s = subst (λ m. EndsDifferences m xs ys c.differing-n.result) (sym size) c.differing-n.ensures in
    c.cmp.ensures ∙ ap₂ nat_cmp c.place-right.ensures.sum c.place-left.ensures.sum
    ∙ sym (last_decides xs ys c.differing-n.result (same-sums c.args.a.now c.args.e.now c.args.b.now c.args.f.now (sym c.requires.right.count)) s (omega (arith, c.if-n-eq0.false)))
    ∙ ap (λ j. reverse_lex (exponents_of j xs) (exponents_of j ys)) size
