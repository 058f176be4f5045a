use Rattle.std.proofs.Common.{ap, arith, get_or, length, length-append, rules, subst, sym, [], ℕ, ◌+◌, ◌<◌, ◌∙◌, ◌∷◌, ◌≡◌}
use Rattle.std.proofs.lemmas.List.{get_or_default}
use Rattle.monomials.specs.Exponents.{exponents_of, unit}
use Rattle.bases.specs.Leads.{head_key}
use Rattle.monomial_orders.specs.Kept.{IsWeighed, monomials}
use Rattle.term_lists.specs.Rings.{variables}
use Rattle.term_lists.specs.Vectors.{sum_of}
use Rattle.order_change.proofs.BasisLeads.{basis_some, lead_is, lead_weighed, leads_all, leads_push}
use Rattle.order_change.proofs.Listed.{AreMonomials_push}
use Rattle.order_change.specs.Lists.{AreMonomials}
use Rattle.order_change.proofs.listing.leads_of.Goals as goal

pub bounds-terms-0 : goal.bounds-terms-0
bounds-terms-0 c =
    let basis = c.args.basis.now in
    let items = c.as_slice-v-items.result.now in
    let i = c.loop-v.v-index in
    let v = c.v-item.result in
    let lt : i < length basis = subst (λ z. i < length z) c.as_slice-v-items.ensures c.loop-v-test.true in
    let is : v ≡ get_or basis i [] = c.v-item.is ∙ sym (get_or_default items i [] v c.loop-v-test.true) ∙ ap (λ z. get_or z i []) c.as_slice-v-items.ensures in
    let some : 0 < length c.terms.result.now = subst (λ z. 0 < length z) (sym (c.terms.ensures ∙ is)) (basis_some c.args.ring.now basis (c.lawful_setting.ensures 1) c.requires i lt) in
    search rules

pub loop-v-preserved : goal.loop-v-preserved
loop-v-preserved c =
    let ring = c.args.ring.now in
    let n = variables ring in
    let basis = c.args.basis.now in
    let items = c.as_slice-v-items.result.now in
    let i = c.loop-v.v-index in
    let v = c.v-item.result in
    let lt : i < length basis = subst (λ z. i < length z) c.as_slice-v-items.ensures c.loop-v-test.true in
    let is : v ≡ get_or basis i [] = c.v-item.is ∙ sym (get_or_default items i [] v c.loop-v-test.true) ∙ ap (λ z. get_or z i []) c.as_slice-v-items.ensures in
    let terms = c.terms.result.now in
    let at : terms ≡ get_or basis i [] = c.terms.ensures ∙ is in
    let some : 0 < length terms = subst (λ z. 0 < length z) (sym at) (basis_some ring basis (c.lawful_setting.ensures 1) c.requires i lt) in
    let t = c.index-terms-0.result in
    let y = c.in_ok-try_copy.field-0 in
    let copied : y ≡ t.0.monomial = c.in_ok-try_copy.ensures.ok ∙ ap (λ x. x.0.monomial) (sym c.index-terms-0.is) in
    let xs = c.loop-v.leads.items in
    let h = c.loop-v.invariant in
    record {
      count = omega (arith, c.push_reserved.ensures.len, h.count);
      room = omega (arith, c.push_reserved.ensures.capacity, h.room);
      long = ap length c.push_reserved.ensures.items ∙ length-append xs (y ∷ []) ∙ ap (λ z. z + 1) h.long;
      monomials_of = subst (AreMonomials n ring.weights) (sym c.push_reserved.ensures.items)
          (AreMonomials_push n ring.weights xs y h.monomials_of (subst (IsWeighed n ring.weights) (sym copied) (lead_weighed ring basis i terms t c.requires lt at some c.index-terms-0.is)));
      leads = subst (λ z. (k : ℕ) → k < i + 1 → get_or (monomials n z) k (unit n) ≡ (head_key (sum_of n (get_or basis k []))).1) (sym c.push_reserved.ensures.items)
          (leads_push n basis xs y i h.long h.leads (ap (λ z. exponents_of n z.exponents) copied ∙ lead_is n basis i terms t at some c.index-terms-0.is));
    }

pub returns-clause-leads : goal.returns-clause-leads
returns-clause-leads c =
    let n = variables c.args.ring.now in
    let basis = c.args.basis.now in
    let items = c.as_slice-v-items.result.now in
    let i = c.loop-v.v-index in
    let same : length items ≡ length basis = ap length c.as_slice-v-items.ensures in
    let all : i ≡ length basis = omega (arith, same, c.loop-v-test.false, c.loop-v.auto.v-index-end) in
    leads_all n basis c.loop-v.leads.items i c.loop-v.invariant.long all c.loop-v.invariant.leads
