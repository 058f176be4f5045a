use Rattle.std.proofs.Common.{subst}
use Rattle.term_lists.specs.declared.ring.Ring.{Ring}
use Rattle.member_products.specs.Generators.{IsVectorOf}
use Rattle.core_histories.proofs.leading.minimal.Goals as goal

pub push_lead-requires-clause-vector : goal.push_lead-requires-clause-vector
push_lead-requires-clause-vector c = subst (λ (r : Ring). IsVectorOf r c.get.result.now.vector) c.requires c.get.ensures.over.vector.vector
