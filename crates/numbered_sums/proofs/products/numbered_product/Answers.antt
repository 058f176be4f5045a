use Rattle.std.specs.Prelude.{IfErr}
use Rattle.std.proofs.Common.{List, [], get_or, length, subst, sym, ℕ, ◌∙◌, ◌≡◌}
use Rattle.std.proofs.lemmas.List.{get_or_default}
use Rattle.monomials.specs.Exponents.{exponents_of}
use Rattle.formal_sums.specs.FormalSums.{Each, scale}
use Rattle.monomial_orders.specs.Kept.{IsWeighed}
use Rattle.term_lists.proofs.Parts.{Each_member}
use Rattle.term_lists.specs.Rings.{variables}
use Rattle.term_lists.specs.Vectors.{sum_of}
use Rattle.row_matrix.specs.Naming.{AreNamed}
use Rattle.row_matrix.specs.Products.{ProductStops}
use Rattle.row_matrix.specs.Rows.{AreKeys}
use Rattle.row_matrix.proofs.MonicMatrices.{ok_more}
use Rattle.numbered_sums.proofs.ProductRows.{product_named}
use Rattle.numbered_sums.specs.ProductEntries.{IsProductEntries}
use Rattle.numbered_sums.proofs.products.numbered_product.Goals as goal

pub returns-clause-row : goal.returns-clause-row
returns-clause-row c =
    let ring = c.args.ring.now in
    let list = c.args.list.now in
    let m = c.args.monomial.now in
    let k = length m.exponents in
    let v = c.terms.result.now in
    let new = c.product_row.new.keys in
    let is : v ≡ get_or list c.args.index [] = c.terms.ensures ∙ c.index-list-index.is ∙ get_or_default list c.args.index c.index-list-index.result [] c.requires.index in
    ok_more (λ row. AreNamed k new row.items (scale 1 (exponents_of k m.exponents) (sum_of k v))) (λ row. IsProductEntries ring list new c.args.index m row.items) c.product_row.result
    (λ row h. product_named ring list new c.args.index m row.items v c.requires.monomial c.requires.index c.requires.reduced is h) c.product_row.ensures.named

pub returns-clause-keys : goal.returns-clause-keys
returns-clause-keys c =
    let ring = c.args.ring.now in
    let n = variables ring in
    let ws = ring.weights in
    let list = c.args.list.now in
    let m = c.args.monomial.now in
    let k = length m.exponents in
    let v = c.terms.result.now in
    let old = c.args.numbers.now in
    let new = c.product_row.new.keys in
    let same : k ≡ n = c.requires.monomial.variables in
    let is : v ≡ get_or list c.args.index [] = c.terms.ensures ∙ c.index-list-index.is ∙ get_or_default list c.args.index c.index-list-index.result [] c.requires.index in
    let terms : Each (λ u. IsWeighed n ws u.0.monomial) v = subst (Each (λ u. IsWeighed n ws u.0.monomial)) (sym is)
    (Each_member (Each (λ u. IsWeighed n ws u.0.monomial)) list c.args.index [] c.requires.weighed c.requires.index) in
    ok_more (λ _. (us : List ℕ) → IsWeighed k us m → Each (λ u. IsWeighed k us u.0.monomial) v → AreKeys k us old → AreKeys k us new) (λ _. AreKeys n ws new) c.product_row.result
    (λ _ h. subst (λ j. AreKeys j ws new) same
    (h ws (subst (λ j. IsWeighed j ws m) (sym same) c.requires.monomial) (subst (λ j. Each (λ u. IsWeighed j ws u.0.monomial) v) (sym same) terms)
    (subst (λ j. AreKeys j ws old) (sym same) c.requires.keys))) c.product_row.ensures.weighed

pub returns-clause-stop : goal.returns-clause-stop
returns-clause-stop c =
    let list = c.args.list.now in
    let v = c.terms.result.now in
    let is : v ≡ get_or list c.args.index [] = c.terms.ensures ∙ c.index-list-index.is ∙ get_or_default list c.args.index c.index-list-index.result [] c.requires.index in
    subst (λ w. IfErr c.product_row.result (ProductStops c.args.monomial.now w)) is c.product_row.ensures.stop
