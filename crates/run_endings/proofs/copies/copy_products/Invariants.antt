use Rattle.std.proofs.Common.{take, ◌≡◌}
use Rattle.run_endings.proofs.copies.copy_products.Given as goal

abbrev pub invariant-loop-product : goal.invariant-loop-product
invariant-loop-product l = l.copy.items ≡ take l.product-index l.products
