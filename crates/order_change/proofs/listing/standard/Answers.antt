use Rattle.std.proofs.Common.{length, subst, sym, ◌≡◌}
use Rattle.monomial_orders.specs.Kept.{IsWeighed, monomials}
use Rattle.term_lists.specs.Rings.{variables}
use Rattle.change_laws.specs.Standard.{AreStandard}
use Rattle.order_change.proofs.BasisLeads.{each_item}
use Rattle.order_change.specs.Lists.{AreMonomials}
use Rattle.order_change.specs.Stops.{AreFew, OrderChangeStops}
use Rattle.order_change.proofs.listing.standard.Goals as goal

pub standard_monomials-requires : goal.standard_monomials-requires
standard_monomials-requires c =
    let ring = c.args.ring.now in
    let ws = ring.weights in
    let e : length ws ≡ variables ring = ring.weighted in
    record {
      leads = subst (AreMonomials (length ws) ws) (sym c.deref.ensures.value)
          (subst (λ k. AreMonomials k ws c.in_ok-leads.leads.items) (sym e) c.in_ok-leads.ensures.monomials);
    }

pub returns-in-Ok-clause-monomials : goal.returns-in-Ok-clause-monomials
returns-in-Ok-clause-monomials c =
    let ring = c.args.ring.now in
    let ws = ring.weights in
    let e : length ws ≡ variables ring = ring.weighted in
    each_item (IsWeighed (variables ring) ws) c.in-Ok.found.items (subst (λ k. AreMonomials k ws c.in-Ok.found.items) e c.in-Ok.ensures.monomials)

pub returns-in-Ok-clause-standard : goal.returns-in-Ok-clause-standard
returns-in-Ok-clause-standard c =
    let ring = c.args.ring.now in
    let ws = ring.weights in
    let n = variables ring in
    let e : length ws ≡ n = ring.weighted in
    let found = c.in-Ok.found.items in
    subst (λ L. AreStandard L (monomials n found)) c.in_ok-leads.ensures.leads
    (subst (λ k. AreStandard (monomials k c.in_ok-leads.leads.items) (monomials k found)) e
    (subst (λ z. AreStandard (monomials (length ws) z) (monomials (length ws) found)) c.deref.ensures.value c.in-Ok.ensures.standard))

pub returns-in-Ok-clause-few : goal.returns-in-Ok-clause-few
returns-in-Ok-clause-few c =
    let ring = c.args.ring.now in
    let ws = ring.weights in
    let n = variables ring in
    let e : length ws ≡ n = ring.weighted in
    subst (λ L. AreFew L) c.in_ok-leads.ensures.leads
    (subst (λ k. AreFew (monomials k c.in_ok-leads.leads.items)) e
    (subst (λ z. AreFew (monomials (length ws) z)) c.deref.ensures.value c.in-Ok.ensures.few))

pub returns-clause-stop : goal.returns-clause-stop
returns-clause-stop c =
    let ring = c.args.ring.now in
    let ws = ring.weights in
    let n = variables ring in
    let e : length ws ≡ n = ring.weighted in
    let stop = c.in-Err.stop in
    subst (λ L. OrderChangeStops L stop) c.in_ok-leads.ensures.leads
    (subst (λ k. OrderChangeStops (monomials k c.in_ok-leads.leads.items) stop) e
    (subst (λ z. OrderChangeStops (monomials (length ws) z) stop) c.deref.ensures.value c.in-Err.ensures.stop))

pub leads_of-requires : goal.leads_of-requires
leads_of-requires c = c.requires
