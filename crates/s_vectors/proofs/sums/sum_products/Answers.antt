use Rattle.std.proofs.Common.{subst}
use Rattle.module_vectors.specs.ProductStops.{ProductsStop}
use Rattle.s_vectors.proofs.Parts.{none_great}
use Rattle.s_vectors.proofs.sums.sum_products.Goals as goal

pub sum_of_products-requires-clause-factors : goal.sum_of_products-requires-clause-factors
sum_of_products-requires-clause-factors c = c.requires.factors

pub sum_of_products-requires-clause-vectors : goal.sum_of_products-requires-clause-vectors
sum_of_products-requires-clause-vectors c = c.requires.vectors

pub great_stop-requires : goal.great_stop-requires
great_stop-requires c = λ fits.
    none_great c.args.products.now _ _ fits (subst (ProductsStop c.args.products.now) c.in-Err-Degree.field-0-is c.in-Err-Degree.ensures.stop)
