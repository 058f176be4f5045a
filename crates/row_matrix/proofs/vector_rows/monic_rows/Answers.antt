use Rattle.std.proofs.Common.{[], ap, arith, get_or, length, subst, ◌+◌, ◌∙◌, ◌≡◌}
use Rattle.std.proofs.lemmas.List.{get_or_default}
use Rattle.monomials.specs.Exponents.{unit}
use Rattle.monomial_orders.specs.Monomials.{IsMonomial}
use Rattle.term_lists.specs.Rings.{variables}
use Rattle.row_matrix.proofs.DividedRows.{AreFirstRows, rows_more, rows_same}
use Rattle.row_matrix.proofs.vector_rows.monic_rows.Goals.{then-terms-gt0+in_ok-row+in_ok-push, else-terms-gt0}
use Rattle.row_matrix.proofs.vector_rows.monic_rows.Goals as goal

pub monic_row-requires-clause-one : goal.monic_row-requires-clause-one
monic_row-requires-clause-one g c =
    let one = c.in_ok-one.one in
    let size : c.len.result ≡ variables (g.F.Frame.over c.args.frame.now) = c.len.ensures ∙ ap variables c.ring.ensures in
    subst (λ k. IsMonomial k (unit k) one.exponents) size c.in_ok-one.ensures.ok

pub loop-i-preserved : goal.loop-i-preserved
loop-i-preserved g c =
    let ring = g.F.Frame.over c.args.frame.now in
    let n = variables ring in
    let list = c.args.list.now in
    let i = c.loop-i.i in
    let lt = c.loop-i-test.true in
    let vector : c.terms.result.now ≡ get_or list i [] = c.terms.ensures ∙ c.index-list-i.is ∙ get_or_default list i c.index-list-i.result [] lt in
    let v = c.loop-i.invariant in
    let m : AreFirstRows n ring.weights ring.modulus.value list c.if-terms-gt0.keys c.if-terms-gt0.rows.items (i + 1) = elim c.if-terms-gt0.branch [
      | then-terms-gt0+in_ok-row+in_ok-push w ↦
          let e = w.in_ok-row.ensures in
          rows_more n ring.weights ring.modulus.value list c.loop-i.keys c.if-terms-gt0.keys w.monic_row.new.keys
          c.loop-i.rows.items c.if-terms-gt0.rows.items w.push.new.self.items w.in_ok-row.row i w.keys-is (ap (λ a. a.items) w.rows-is)
          w.in_ok-push.ensures.items lt
          (omega (arith, w.if-terms-gt0.true, ap length vector)) e.grown e.weighed e.named e.source v.monomials v.each v.order
      | else-terms-gt0 w ↦
          rows_same n ring.weights ring.modulus.value list c.loop-i.keys c.if-terms-gt0.keys c.loop-i.rows.items c.if-terms-gt0.rows.items i
          w.keys-is (ap (λ a. a.items) w.rows-is) lt (omega (arith, w.if-terms-gt0.false, ap length vector)) v.monomials v.each v.order
    ] in
    record { monomials = m.monomials; each = m.each; order = m.order }

pub monic_row-requires-clause-vectors : goal.monic_row-requires-clause-vectors
monic_row-requires-clause-vectors g c = c.requires.vectors
