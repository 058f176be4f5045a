use Rattle.std.proofs.Common.{List, ap, length, map, subst, subst₂, sym, ℕ, ◌∙◌}
use Rattle.formal_sums.specs.FormalSums.{Each}
use Rattle.orders.specs.KeyOrders.{Descends}
use Rattle.term_lists.proofs.Gathers.{Each_permutation}
use Rattle.term_lists.specs.Rings.{variables}
use Rattle.term_lists.specs.Vectors.{IsMonomialOver, sum_of}
use Rattle.term_lists.specs.declared.key.Key.{Key}
use Rattle.term_lists.specs.declared.ring.Ring.{Ring}
use Rattle.resolution_maps.specs.Inducing.{tower_comparison}
use Rattle.schreyer_resolution.proofs.FreeRows.{starts_more}
use Rattle.schreyer_resolution.proofs.Turns.{terms_over}
use Rattle.schreyer_resolution.specs.Sharing.{AreStarts, IsLastProduct}
use Rattle.schreyer_resolution.specs.Turns.{product_term}
use Rattle.schreyer_resolution.proofs.shared.made_columns.Goals as goal

pub descends-requires : goal.descends-requires
descends-requires g c =
    let ring = c.args.ring.now in
    let cols = c.args.columns.now in
    let x = c.all_rows.new.products in
    let sorted = c.sort_products.new.products.items in
    subst₂ (λ (r : Ring) (ts : List (Key × ℕ)). Each (λ t. IsMonomialOver r t.0.monomial) ts) (sym c.requires.over)
    (sym (c.deref-6.ensures.value ∙ c.in_ok-terms.ensures ∙ ap (map product_term) c.deref-5.ensures.value))
    (terms_over ring cols x.numbers x.entries.items sorted
    (Each_permutation (IsLastProduct ring cols x.numbers x.entries.items) x.list.items sorted c.sort_products.ensures c.in_ok-all_rows.ensures.last))

pub columns_by-requires-clause-products : goal.columns_by-requires-clause-products
columns_by-requires-clause-products g c =
    let x = c.all_rows.new.products in
    Each_permutation (IsLastProduct c.args.ring.now c.args.columns.now x.numbers x.entries.items) x.list.items c.sort_products.new.products.items
    c.sort_products.ensures c.in_ok-all_rows.ensures.last

pub columns_by-requires-clause-descend : goal.columns_by-requires-clause-descend
columns_by-requires-clause-descend g c =
    let t = c.args.induced.now in
    subst₂ (λ (r : Ring) (ts : List (Key × ℕ)). Descends (tower_comparison t (variables r)) (sum_of (variables r) ts)) c.requires.over
    (c.deref-6.ensures.value ∙ sym c.deref-7.ensures.value) (c.descends.ensures c.if-not-descends.false)

pub columns_by-requires-clause-starts : goal.columns_by-requires-clause-starts
columns_by-requires-clause-starts g c =
    let ring = c.args.ring.now in
    let cols = c.args.columns.now in
    let keys = c.args.keys.now in
    let before = c.start_rows.new.products in
    let after = c.all_rows.new.products in
    subst (AreStarts ring cols after.numbers after.entries.items keys (length keys)) (sym c.deref-9.ensures.value)
    (starts_more ring cols before.numbers after.numbers before.entries.items after.entries.items keys (length keys) c.in_ok-starts.starts.items
    c.in_ok-all_rows.ensures.numbers c.in_ok-all_rows.ensures.entries c.in_ok-starts.ensures.starts)
