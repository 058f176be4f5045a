use Rattle.std.proofs.Common.{refl}
use Rattle.degree_engine.proofs.LastVariable.{weighted_more}
use Rattle.degree_engine.proofs.last_variable.ring_with_last.Goals as goal

pub invariant_of-result : goal.invariant_of-result
invariant_of-result c = record {
  weighted = weighted_more c.args.ring.now _ _ c.in_ok-vars.ensures c.in_ok-weights.ensures;
}

pub returns : goal.returns
returns c = record { modulus = refl; order = refl; module_order = refl; weights = c.in_ok-weights.ensures; count = c.in_ok-vars.ensures }
