use Rattle.std.proofs.Common.{◌∙◌}
use Rattle.degree_engine.proofs.Resorting.{graded_terms, same_sum}
use Rattle.degree_engine.proofs.by_change.resorted.Goals as goal

pub from_terms-requires : goal.from_terms-requires
from_terms-requires c =
    graded_terms c.args.ring.now c.args.graded.now c.args.v.now c.into_terms.result.items c.requires.graded
    (c.into_terms.ensures ∙ c.in_ok-copy.ensures) c.requires.vector

pub returns-clause-same : goal.returns-clause-same
returns-clause-same c =
    same_sum c.args.ring.now c.args.graded.now c.args.v.now c.into_terms.result.items c.in_ok-from_terms.field-0 c.requires.graded
    (c.into_terms.ensures ∙ c.in_ok-copy.ensures) c.in_ok-from_terms.ensures.same
