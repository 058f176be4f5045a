use Rattle.std.proofs.Common.{arith}
use Rattle.pair_criteria.proofs.SparedPairs.{chain_spares, key_divides}
use Rattle.pair_criteria.proofs.criteria.chain_applies.Goals as goal

pub returns-clause-spares : goal.returns-clause-spares
returns-clause-spares c = λ h. chain_spares _ _ (key_divides _ _ (omega arith) (c.divides.ensures.value.0 h))
