use Rattle.std.proofs.Common.{List, [], ap, sym, take, ◌++◌, ◌∙◌, ◌∷◌}
use Rattle.std.proofs.lemmas.List.{append-nil, append_assoc, take_all}
use Rattle.term_lists.proofs.Scaling.{take_item}
use Rattle.module_vectors.specs.Trails.{KeptProduct}
use Rattle.basis_core.proofs.trails.push_products.Goals as goal

pub loop-product-init : goal.loop-product-init
loop-product-init c = sym (append-nil c.args.all.now.items)

pub loop-product-preserved : goal.loop-product-preserved
loop-product-preserved c =
    let all : List KeptProduct = c.args.all.now.items in
    let products : List KeptProduct = c.args.products.now in
    let product : KeptProduct = c.product-item.result in
    c.in_ok-push_product.ensures ∙ ap (λ (l : List KeptProduct). l ++ (product ∷ [])) c.loop-product.invariant
    ∙ append_assoc all (take c.loop-product.product-index products) (product ∷ [])
    ∙ ap (λ (l : List KeptProduct). all ++ l) (sym (take_item products c.loop-product.product-index product c.loop-product-test.true c.product-item.is))

pub returns : goal.returns
returns c =
    c.loop-product.invariant ∙ ap (λ (l : List KeptProduct). c.args.all.now.items ++ l)
    (take_all c.loop-product.product-index c.args.products.now c.loop-product-test.false)
