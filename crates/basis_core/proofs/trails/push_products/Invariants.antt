use Rattle.std.proofs.Common.{take, ◌++◌, ◌≡◌}
use Rattle.basis_core.proofs.trails.push_products.Given as goal

abbrev pub invariant-loop-product : goal.invariant-loop-product
invariant-loop-product l = l.all.items ≡ l.fn.all.items ++ take l.product-index l.products
