use Rattle.std.proofs.Common.{ap, arith, length, subst, sym, ◌≤◌}
use Rattle.monomial_orders.specs.Comparisons.{comparison}
use Rattle.monomial_orders.specs.Laws.{comparison_order}
use Rattle.term_lists.specs.Rings.{variables}
use Rattle.change_laws.specs.Standard.{AreDistinct, AreStandard, Has}
use Rattle.order_change.proofs.Finishing.{given}
use Rattle.order_change.proofs.Sorting.{standard_sorted}
use Rattle.order_change.proofs.Stepping.{few_room}
use Rattle.order_change.specs.Lists.{AreMonomials}
use Rattle.order_change.specs.Products.{HaveRoom}
use Rattle.order_change.specs.Stops.{OrderChangeStops}
use Rattle.order_change.specs.Tables.{IsBasisGiven}
use Rattle.monomial_orders.specs.Kept.{monomials}
use Rattle.order_change.proofs.conversion.convert.Goals as goal

pub standard_monomials-requires : goal.standard_monomials-requires
standard_monomials-requires c =
    let ring = c.args.ring.now in
    let ws = ring.weights in
    record {
      leads = subst (AreMonomials (length ws) ws) (sym c.deref.ensures.value)
          (subst (λ k. AreMonomials k ws c.in_ok-leads.leads.items) (sym ring.weighted) c.in_ok-leads.ensures.monomials);
    }

pub returns-in-Err-clause-stop : goal.returns-in-Err-clause-stop
returns-in-Err-clause-stop c =
    let ring = c.args.ring.now in
    let ws = ring.weights in
    let n = variables ring in
    let stop = c.in-Err.stop in
    subst (λ L. OrderChangeStops L stop) c.in_ok-leads.ensures.leads
    (subst (λ k. OrderChangeStops (monomials k c.in_ok-leads.leads.items) stop) ring.weighted
    (subst (λ z. OrderChangeStops (monomials (length ws) z) stop) c.deref.ensures.value c.in-Err.ensures.stop))

pub ascending-requires : goal.ascending-requires
ascending-requires c =
    let ring = c.args.ring.now in
    let ws = ring.weights in
    let n = length ws in
    let found = c.in-Ok.found.items in
    record {
      list = subst (AreMonomials n ws) (sym c.deref-2.ensures.value) c.in-Ok.ensures.monomials;
      room = subst HaveRoom (sym c.deref-2.ensures.value) (few_room found c.in-Ok.ensures.degrees c.in-Ok.ensures.most);
      distinct = subst (λ z. AreDistinct (monomials n z)) (sym c.deref-2.ensures.value) c.in-Ok.ensures.standard.distinct;
    }

pub converted-requires : goal.converted-requires
converted-requires c =
    let ring = c.args.ring.now in
    let ws = ring.weights in
    let n = length ws in
    let leads = c.in_ok-leads.leads.items in
    let found = c.in-Ok.found.items in
    let standard = c.in_ok-standard.standard.items in
    let L = monomials n leads in
    let listed : AreStandard L (monomials n found) = subst (λ z. AreStandard (monomials n z) (monomials n found)) c.deref.ensures.value c.in-Ok.ensures.standard in
    let sorted : AreStandard L (monomials n standard) =
    standard_sorted (comparison ring.order ws n) (comparison_order ring.order ws n) L (monomials n found) (monomials n standard) c.in_ok-standard.ensures.ascending
    (λ m has. subst (λ z. Has (monomials n z) m) c.deref-2.ensures.value (c.in_ok-standard.ensures.inside m has))
    (λ m has. c.in_ok-standard.ensures.all m (subst (λ z. Has (monomials n z) m) (sym c.deref-2.ensures.value) has)) listed in
    let few : length standard ≤ 256 = let a = c.in_ok-standard.ensures.long in let b = c.in-Ok.ensures.most in let d = ap length c.deref-2.ensures.value in omega (arith, a, b, d) in
    subst (λ z. IsBasisGiven n ring c.args.basis.now z c.deref-4.result.now) (sym c.deref-3.ensures.value)
    (subst (λ z. IsBasisGiven n ring c.args.basis.now leads z) (sym c.deref-4.ensures.value)
    (given n ring c.args.basis.now leads standard (sym ring.weighted) (c.lawful_setting.ensures 1) c.requires
    c.in_ok-leads.ensures.monomials c.in_ok-leads.ensures.leads c.in_ok-standard.ensures.monomials sorted c.in_ok-standard.ensures.ascending c.in_ok-standard.ensures.room few))

pub leads_of-requires : goal.leads_of-requires
leads_of-requires c = c.requires
