use Rattle.std.proofs.Common.{arith}
use Rattle.s_vectors.proofs.Parts.{great_product}
use Rattle.s_vectors.proofs.sums.find_product.Goals as goal

pub returns-in-Some-clause-some : goal.returns-in-Some-clause-some
returns-in-Some-clause-some c =
    great_product c.args.products.now c.loop-i.i c.index-products-i.result c.in-Some.monomial.now (omega arith) c.index-products-i.is
    c.in-Some.ensures.some.0 c.in-Some.ensures.some.1
