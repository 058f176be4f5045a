use Rattle.std.proofs.Common.{[], arith, get_or, length, refl, subst, sym, ◌+◌, ◌<◌, ◌≡◌, ◌∙◌}
use Rattle.std.proofs.lemmas.List.{get_or_default}
use Rattle.formal_sums.specs.FormalSums.{Each}
use Rattle.term_lists.proofs.Parts.{Each_member}
use Rattle.term_lists.proofs.Scaling.{Each_at}
use Rattle.term_lists.specs.Rings.{variables}
use Rattle.term_lists.specs.Vectors.{IsMonomialOver}
use Rattle.row_matrix.proofs.Telling.{tells_product}
use Rattle.induced_leads.specs.Reaching.{positions_of}
use Rattle.schreyer_resolution.proofs.Pushing.{mark_there, underway_free, underway_pushed, within_bounds}
use Rattle.schreyer_resolution.specs.Marking.{AreTermMarks, IsTermMark}
use Rattle.schreyer_resolution.specs.Sharing.{IsRowUnderway}
use Rattle.schreyer_resolution.specs.declared.products.Products.{Products}
use Rattle.schreyer_resolution.proofs.numbered.push_row.Goals.{else-may_be_covered, then-may_be_covered+in_ok-push_entry}
use Rattle.schreyer_resolution.proofs.numbered.push_row.Goals as goal

pub push_entry-requires-clause-hash : goal.push_entry-requires-clause-hash
push_entry-requires-clause-hash c =
    let cols = c.args.columns.now in
    let at = c.args.at in
    let terms = c.terms-terms.result.now in
    let column : terms ≡ get_or cols at [] = c.terms-terms.ensures ∙ c.index-columns-at.is ∙ get_or_default cols at c.index-columns-at.result [] c.requires.at in
    let lt : c.loop-k.k < length terms = omega (arith, c.loop-k-test.true, c.loop-k.auto.k-end) in
    (mark_there cols (positions_of c.args.index.now) c.args.marks.now at c.loop-k.k c.index-marks-at.result c.index-mark.result.now terms c.index-terms-k.result
    c.requires.marks c.requires.at c.index-marks-at.is column lt c.index-mark.ensures c.index-terms-k.is).hash
    (c.if-may_be_covered.ensures.reached refl)

pub push_entry-requires-clause-told : goal.push_entry-requires-clause-told
push_entry-requires-clause-told c = λ z.
    let ring = c.args.ring.now in
    let cols = c.args.columns.now in
    let at = c.args.at in
    let P = positions_of c.args.index.now in
    let m = c.index-marks-at.result in
    let one = c.index-mark.result.now in
    let terms = c.terms-terms.result.now in
    let k = c.loop-k.k in
    let x = c.index-terms-k.result in
    let inv = c.loop-k.invariant in
    let column : terms ≡ get_or cols at [] = c.terms-terms.ensures ∙ c.index-columns-at.is ∙ get_or_default cols at c.index-columns-at.result [] c.requires.at in
    let lt : k < length terms = omega (arith, c.loop-k-test.true, c.loop-k.auto.k-end) in
    let of_column : AreTermMarks cols P terms m = subst (λ v. AreTermMarks cols P v m) (sym column) (c.requires.marks.each at m c.requires.at c.index-marks-at.is) in
    let mark : IsTermMark cols P x.0 one =
    mark_there cols P c.args.marks.now at k m one terms x c.requires.marks c.requires.at c.index-marks-at.is column lt c.index-mark.ensures c.index-terms-k.is in
    let over : Each (λ u. IsMonomialOver ring u.0.monomial) terms =
    subst (Each (λ u. IsMonomialOver ring u.0.monomial)) (sym column)
    (Each_member (λ v. Each (λ u. IsMonomialOver ring u.0.monomial) v) cols at [] c.requires.weighed c.requires.at) in
    let wx = Each_at (λ u. IsMonomialOver ring u.0.monomial) terms k x over lt c.index-terms-k.is in
    tells_product (variables ring) ring.weights c.loop-k.products.numbers c.args.t.now P m.degree x.0 (inv.tells z)
    (within_bounds cols P m one terms k x of_column mark (c.if-may_be_covered.ensures.reached refl) lt c.index-terms-k.is c.bounds.ensures.held) c.requires.monomial wx
    inv.part.keys

pub loop-k-preserved : goal.loop-k-preserved
loop-k-preserved c =
    let ring = c.args.ring.now in
    let cols = c.args.columns.now in
    let t = c.args.t.now in
    let at = c.args.at in
    let P = positions_of c.args.index.now in
    let m = c.index-marks-at.result in
    let one = c.index-mark.result.now in
    let terms = c.terms-terms.result.now in
    let k = c.loop-k.k in
    let x = c.index-terms-k.result in
    let start = c.args.products.now in
    let old = c.loop-k.products in
    let column : terms ≡ get_or cols at [] = c.terms-terms.ensures ∙ c.index-columns-at.is ∙ get_or_default cols at c.index-columns-at.result [] c.requires.at in
    let lt : k < length terms = omega (arith, c.loop-k-test.true, c.loop-k.auto.k-end) in
    let of_column : AreTermMarks cols P terms m = subst (λ v. AreTermMarks cols P v m) (sym column) (c.requires.marks.each at m c.requires.at c.index-marks-at.is) in
    let mark : IsTermMark cols P x.0 one =
    mark_there cols P c.args.marks.now at k m one terms x c.requires.marks c.requires.at c.index-marks-at.is column lt c.index-mark.ensures c.index-terms-k.is in
    let over : Each (λ u. IsMonomialOver ring u.0.monomial) terms =
    subst (Each (λ u. IsMonomialOver ring u.0.monomial)) (sym column)
    (Each_member (λ v. Each (λ u. IsMonomialOver ring u.0.monomial) v) cols at [] c.requires.weighed c.requires.at) in
    let wx = Each_at (λ u. IsMonomialOver ring u.0.monomial) terms k x over lt c.index-terms-k.is in
    let low : Each (λ u. u.1 < ring.modulus.value) terms =
    subst (Each (λ u. u.1 < ring.modulus.value)) (sym column)
    (Each_member (λ v. Each (λ u. u.1 < ring.modulus.value) v) cols at [] c.requires.reduced c.requires.at) in
    let small = Each_at (λ u. u.1 < ring.modulus.value) terms k x low lt c.index-terms-k.is in
    let underway : Products → Type 0 =
    λ q. IsRowUnderway ring cols t terms P m.degree c.tells-told.result c.len-from.result (k + 1) start q in
    elim c.if-may_be_covered.branch [
      | then-may_be_covered+in_ok-push_entry w ↦ subst underway (sym w.products-is)
          (underway_pushed ring cols t terms P m.degree c.tells-told.result c.len-from.result k x c.requires.monomial wx lt c.index-terms-k.is start old
          w.push_entry.new.products small (omega (arith, c.len-from.ensures))
          (within_bounds cols P m one terms k x of_column mark (c.may_be_covered.ensures.reached w.if-may_be_covered.true) lt c.index-terms-k.is w.bounds.ensures.held)
          w.in_ok-push_entry.ensures.part w.in_ok-push_entry.ensures.pushed c.loop-k.invariant)
      | else-may_be_covered w ↦ subst underway (sym w.products-is)
          (underway_free ring cols t terms P m.degree c.tells-told.result c.len-from.result k x c.requires.monomial wx lt c.index-terms-k.is start old old
          (c.may_be_covered.ensures.never w.if-may_be_covered.false (variables ring) ring.weights c.requires.weighed c.requires.monomial.variables wx.variables)
          c.loop-k.invariant)
    ]
