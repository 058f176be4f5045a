use Rattle.std.proofs.Common.{List, length, subst, subst₂, sym, ℕ}
use Rattle.monomials.specs.Exponents.{exponents_of, unit}
use Rattle.formal_sums.specs.FormalSums.{Each, scale}
use Rattle.monomial_orders.specs.Kept.{IsWeighed}
use Rattle.monomial_orders.specs.Monomials.{IsMonomial}
use Rattle.term_lists.specs.Rings.{variables}
use Rattle.term_lists.specs.Vectors.{IsMonomialOver, sum_of}
use Rattle.row_matrix.proofs.MonicMatrices.{ok_more}
use Rattle.row_matrix.specs.Naming.{AreNamed}
use Rattle.row_matrix.specs.Rows.{AreKeys}
use Rattle.remainders.proofs.Starting.{entries_of, keys_of, one_weighed, terms_weighed}
use Rattle.remainders.specs.Leaving.{AreEntriesOf}
use Rattle.remainders.proofs.remaining.numbered_terms.Goals as goal

pub product_row-requires-clause-weighed : goal.product_row-requires-clause-weighed
product_row-requires-clause-weighed c =
    let ring = c.args.ring.now in
    let m = c.in_ok-one.one in
    let k = length m.exponents in
    let v = c.args.v.now in
    let over : IsMonomialOver ring m = subst (λ n. IsWeighed n ring.weights m) c.len.ensures (c.in_ok-one.ensures.weighed ring.weights) in (
      ring.weights,
      one_weighed ring m v over c.requires.vector,
      subst (Each (λ u. IsWeighed k ring.weights u.0.monomial)) (sym c.terms-2.ensures) (terms_weighed ring m v over c.requires.vector),
      subst (AreKeys k ring.weights) (sym c.requires.keys) tt,
    )

pub returns-clause-entries : goal.returns-clause-entries
returns-clause-entries c =
    let ring = c.args.ring.now in
    let n = variables ring in
    let m = c.in_ok-one.one in
    let k = length m.exponents in
    let v = c.args.v.now in
    let new = c.product_row.new.keys in
    let over : IsMonomialOver ring m = subst (λ j. IsWeighed j ring.weights m) c.len.ensures (c.in_ok-one.ensures.weighed ring.weights) in
    let one : IsMonomial n (unit n) m.exponents = subst (λ j. IsMonomial j (unit j) m.exponents) c.len.ensures c.in_ok-one.ensures.ok in
    ok_more (λ row. AreNamed k new row.items (scale 1 (exponents_of k m.exponents) (sum_of k c.terms-2.result.now))) (λ row. AreEntriesOf ring new v row.items) c.product_row.result
    (λ row h. entries_of ring m v over c.requires.vector new row.items one.exponents
    (subst (λ u. AreNamed k new row.items (scale 1 (exponents_of k m.exponents) (sum_of k u))) c.terms-2.ensures h)) c.product_row.ensures.named

pub returns-clause-keys : goal.returns-clause-keys
returns-clause-keys c =
    let ring = c.args.ring.now in
    let m = c.in_ok-one.one in
    let k = length m.exponents in
    let v = c.args.v.now in
    let new = c.product_row.new.keys in
    let over : IsMonomialOver ring m = subst (λ j. IsWeighed j ring.weights m) c.len.ensures (c.in_ok-one.ensures.weighed ring.weights) in
    ok_more (λ _. (ws : List ℕ) → IsWeighed k ws m → Each (λ u. IsWeighed k ws u.0.monomial) c.terms-2.result.now → AreKeys k ws c.args.numbers.now → AreKeys k ws new)
    (λ _. AreKeys (variables ring) ring.weights new) c.product_row.result
    (λ _ h. keys_of ring m v over c.requires.vector new
    (subst₂ (λ u old. (ws : List ℕ) → IsWeighed k ws m → Each (λ t. IsWeighed k ws t.0.monomial) u → AreKeys k ws old → AreKeys k ws new) c.terms-2.ensures c.requires.keys h))
    c.product_row.ensures.weighed
