use Rattle.module_vectors.proofs.SumsOfProducts.{product_zero}
use Rattle.module_vectors.proofs.sums.product_into.Goals as goal

pub returns-then-x-eq0-clause-sum : goal.returns-then-x-eq0-clause-sum
returns-then-x-eq0-clause-sum g c = product_zero _ _ c.args.x.now _ c.requires.empty c.if-x-eq0.true
