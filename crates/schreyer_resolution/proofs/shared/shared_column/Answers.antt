use Rattle.std.proofs.Common.{List, ap, map, subst, subst₂, sym, ℕ, ◌<◌, ◌∙◌, ◌∷◌, ◌≡◌}
use Rattle.std.specs.Prelude.{IfSome}
use Rattle.formal_sums.specs.FormalSums.{Each}
use Rattle.orders.specs.KeyOrders.{Descends}
use Rattle.term_lists.specs.Rings.{variables}
use Rattle.term_lists.specs.Vectors.{IsMonomialOver, IsVectorOver, sum_of}
use Rattle.term_lists.specs.declared.ring.Ring.{Ring}
use Rattle.resolution_maps.specs.Inducing.{tower_comparison}
use Rattle.schreyer_resolution.proofs.SharedColumns.{made_of}
use Rattle.schreyer_resolution.proofs.Turns.{residues_small, terms_over}
use Rattle.schreyer_resolution.specs.Columns.{negated_term}
use Rattle.schreyer_resolution.specs.Sharing.{IsColumnMade}
use Rattle.schreyer_resolution.specs.Turns.{product_term, quotient_at}
use Rattle.schreyer_resolution.proofs.shared.shared_column.Goals as goal

pub taken_terms-requires-clause-key : goal.taken_terms-requires-clause-key
taken_terms-requires-clause-key c = subst (λ r. IsMonomialOver r c.args.key.now.monomial) (sym c.requires.over) c.requires.monomial

pub taken_terms-requires-clause-terms : goal.taken_terms-requires-clause-terms
taken_terms-requires-clause-terms c =
    subst (λ r. Each (λ t. IsMonomialOver r t.0.monomial) c.args.terms.now) (sym c.requires.over)
    (subst (Each (λ t. IsMonomialOver c.args.ring.now t.0.monomial)) (sym c.requires.terms)
    (terms_over c.args.ring.now c.args.columns.now c.args.products.now.numbers c.args.products.now.entries.items c.args.products.now.list.items c.requires.products))

pub taken_terms-requires-clause-descend : goal.taken_terms-requires-clause-descend
taken_terms-requires-clause-descend c =
    let t = c.args.induced.now in
    subst (λ r. Descends (tower_comparison t (variables r)) (sum_of (variables r) c.args.terms.now)) (sym c.requires.over) c.requires.descend

pub taken_terms-requires-clause-reduced : goal.taken_terms-requires-clause-reduced
taken_terms-requires-clause-reduced c =
    let ring = c.args.ring.now in
    let taken = c.take_quotients.new.taken.items in
    subst₂ (λ (r : Ring) (es : List (ℕ × ℕ)). Each (λ e. e.1 < r.modulus.value) es) (sym c.requires.over) (sym c.deref.ensures.value)
    (residues_small ring c.args.columns.now (map product_term c.args.products.now.list.items) taken (c.in_ok-done.ensures.quotients c.if-not-done.false).each)

pub from_ordered-requires : goal.from_ordered-requires
from_ordered-requires c =
    let ring = c.args.ring.now in
    let t = c.args.induced.now in
    let terms = c.args.terms.now in
    let key = c.args.key.now in
    let made = c.in-Some.made.items in
    let taken = c.take_quotients.new.taken.items in
    let p = t.ring.modulus.value in
    let is : made ≡ (key, 1) ∷ map (negated_term p) (map (quotient_at terms) taken) =
    subst (λ o. IfSome o (λ m. m.items ≡ (key, 1) ∷ map (negated_term p) (map (quotient_at terms) c.deref.result.now))) c.in-Some.is
    c.in_ok-found.ensures.is
    ∙ ap (λ es. (key, 1) ∷ map (negated_term p) (map (quotient_at terms) es)) c.deref.ensures.value in
    let n = variables t.ring in
    let descend = subst (λ o. IfSome o (λ m. Descends (tower_comparison t n) (sum_of n m.items))) c.in-Some.is c.in_ok-found.ensures.descend in
    subst (λ r. IsVectorOver r (tower_comparison t) made) (sym c.requires.over)
    (made_of ring c.args.columns.now t key c.args.products.now.list.items terms taken made c.domain.ensures.above_one c.requires.monomial c.requires.over c.requires.terms
    (c.in_ok-done.ensures.quotients c.if-not-done.false) is descend).vector

pub returns-in-Some-clause-made : goal.returns-in-Some-clause-made
returns-in-Some-clause-made c =
    let ring = c.args.ring.now in
    let t = c.args.induced.now in
    let terms = c.args.terms.now in
    let key = c.args.key.now in
    let made = c.in-Some.made.items in
    let taken = c.take_quotients.new.taken.items in
    let p = t.ring.modulus.value in
    let is : made ≡ (key, 1) ∷ map (negated_term p) (map (quotient_at terms) taken) =
    subst (λ o. IfSome o (λ m. m.items ≡ (key, 1) ∷ map (negated_term p) (map (quotient_at terms) c.deref.result.now))) c.in-Some.is
    c.in_ok-found.ensures.is
    ∙ ap (λ es. (key, 1) ∷ map (negated_term p) (map (quotient_at terms) es)) c.deref.ensures.value in
    let n = variables t.ring in
    let descend = subst (λ o. IfSome o (λ m. Descends (tower_comparison t n) (sum_of n m.items))) c.in-Some.is c.in_ok-found.ensures.descend in
    subst (IsColumnMade ring c.args.columns.now t key) (sym c.from_ordered.ensures)
    (made_of ring c.args.columns.now t key c.args.products.now.list.items terms taken made c.domain.ensures.above_one c.requires.monomial c.requires.over c.requires.terms
    (c.in_ok-done.ensures.quotients c.if-not-done.false) is descend)
