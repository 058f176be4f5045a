use Rattle.std.proofs.Common.{IfOk, ap, subst, sym, ◌∙◌, ◌≤◌}
use Rattle.formal_sums.specs.FormalSums.{Each}
use Rattle.term_lists.specs.Rings.{variables}
use Rattle.term_lists.specs.Vectors.{AreTermsOver, StandsFor, sum_of}
use Rattle.syzygy_engine.specs.Marking.{lowered_terms}
use Rattle.syzygy_engine.proofs.LoweredTerms.{each_from, lowered_over, sum_lowered}
use Rattle.syzygy_engine.proofs.lowering.lowered_vector.Goals as goal

pub lower_terms-requires : goal.lower_terms-requires
lower_terms-requires c = subst (Each (λ t. c.args.by ≤ t.0.position)) (sym c.into_terms-terms.ensures) (each_from (variables c.args.ring.now) c.args.by c.args.v c.requires.from)

pub from_terms-requires : goal.from_terms-requires
from_terms-requires c =
    let ring = c.args.ring.now in
    subst (AreTermsOver ring) (sym (c.lower_terms.ensures ∙ ap (lowered_terms c.args.by) c.into_terms-terms.ensures)) (lowered_over ring c.args.by c.args.v c.requires.terms)

pub returns-clause-sum : goal.returns-clause-sum
returns-clause-sum c =
    let ring = c.args.ring.now in
    let n = variables ring in
    subst (λ z. IfOk c.from_terms.result (λ u. StandsFor ring u z))
    (ap (sum_of n) (c.lower_terms.ensures ∙ ap (lowered_terms c.args.by) c.into_terms-terms.ensures) ∙ sum_lowered n c.args.by c.args.v) c.from_terms.ensures.same
