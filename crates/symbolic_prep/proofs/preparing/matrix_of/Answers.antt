use Rattle.std.proofs.Common.{arith, length, subst, subst₂, sym, ◌<◌, ◌∙◌, ◌≡◌}
use Rattle.formal_sums.specs.FormalSums.{Each}
use Rattle.monomial_orders.specs.Laws.{key_comparison_order}
use Rattle.term_lists.specs.Rings.{ring_comparison, variables}
use Rattle.row_matrix.specs.Hashes.{AreDistinctKeys}
use Rattle.row_matrix.specs.Placed.{IsPlacedMatrix}
use Rattle.row_matrix.specs.Rows.{AreKeys, Entry, RowShown}
use Rattle.symbolic_prep.proofs.Matrices.{prepared, rows_known}
use Rattle.symbolic_prep.proofs.preparing.matrix_of.Goals as goal

pub place_matrix-requires-clause-monomials : goal.place_matrix-requires-clause-monomials
place_matrix-requires-clause-monomials g c =
    subst (AreKeys (variables c.args.ring.now) c.args.ring.now.weights) (sym (c.deref.ensures.value ∙ c.into_keys-columns.ensures.keys)) c.requires.plan.monomials

pub place_matrix-requires-clause-known : goal.place_matrix-requires-clause-known
place_matrix-requires-clause-known g c =
    let q = c.args.plan in
    subst (λ ks. Each (λ (r : RowShown). Each (λ (e : Entry). e.0 < length ks) r.entries) q.rows.items) (sym (c.deref.ensures.value ∙ c.into_keys-columns.ensures.keys))
    (rows_known (variables c.args.ring.now) c.args.ring.now.weights (g.L.Vectors.listed c.args._members.now) q.keys q.rows.items q.products.items q.led.items c.requires.plan)

pub returns : goal.returns
returns g c = λ rank.
    let ring = c.args.ring.now in
    let n = variables ring in
    let list = g.L.Vectors.listed c.args._members.now in
    let q = c.args.plan in
    let count : c.len-count.result ≡ length q.rows.items = omega (arith, c.len-count.ensures) in
    prepared n ring.weights ring.modulus.value c.domain.ensures.above_one (ring_comparison ring n) (key_comparison_order ring.module_order ring.order ring.weights n 0) list c.args._pairs.now
    q.keys q.rows.items q.products.items q.led.items c.in_ok-matrix.matrix c.requires.members c.requires.monic c.requires.plan c.requires.closed
    c.requires.pairs c.requires.products
    (subst₂ (λ ks m. IsPlacedMatrix n ring.weights (ring_comparison ring n) ks m q.rows.items c.in_ok-matrix.matrix) (c.deref.ensures.value ∙ c.into_keys-columns.ensures.keys) count c.in_ok-matrix.ensures)
    c.requires.traced (subst AreDistinctKeys c.into_keys-columns.ensures.keys c.into_keys-columns.ensures.apart) c.requires.few rank
