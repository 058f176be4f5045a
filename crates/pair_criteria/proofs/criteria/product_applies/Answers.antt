use Rattle.std.proofs.Common.{arith}
use Rattle.pair_criteria.proofs.SparedPairs.{product_spares}
use Rattle.pair_criteria.proofs.criteria.product_applies.Goals as goal

pub returns-clause-spares : goal.returns-clause-spares
returns-clause-spares c = λ h. product_spares c.args.rank _ _ (omega arith, omega arith, c.coprime.ensures.value.0 h)
