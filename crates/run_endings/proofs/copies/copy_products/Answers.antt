use Rattle.std.proofs.Common.{ap, ◌∙◌}
use Rattle.std.proofs.lemmas.List.{take_all}
use Rattle.module_vectors.specs.Trails.{KeptProduct}
use Rattle.monomial_orders.specs.Kept.{Monomial}
use Rattle.run_endings.proofs.Copied.{copied_more}
use Rattle.run_endings.proofs.copies.copy_products.Goals as goal

pub loop-product-init : goal.loop-product-init
loop-product-init c = c.new-copy.ensures.items

pub loop-product-preserved : goal.loop-product-preserved
loop-product-preserved c =
    let product : KeptProduct = c.product-item.result in
    copied_more c.args.products.now c.loop-product.product-index product (product.0, c.in_ok-try_copy.field-0) c.loop-product.copy.items c.push.new.self.items
    c.loop-product-test.true c.product-item.is (ap (λ (m : Monomial). (product.0, m)) c.in_ok-try_copy.ensures.ok) c.in_ok-push.ensures.items
    c.loop-product.invariant

pub returns : goal.returns
returns c = c.loop-product.invariant ∙ take_all c.loop-product.product-index c.args.products.now c.loop-product-test.false
