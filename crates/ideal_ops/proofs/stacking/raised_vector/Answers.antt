use Rattle.std.proofs.Common.{IfOk, ap, subst, sym, ◌++◌, ◌∙◌}
use Rattle.term_lists.specs.Rings.{variables}
use Rattle.term_lists.specs.Vectors.{AreTermsOver, StandsFor, sum_of}
use Rattle.ideal_ops.specs.Components.{raised_terms}
use Rattle.ideal_ops.proofs.Stacked.{raised_over, sum_raised}
use Rattle.ideal_ops.proofs.stacking.raised_vector.Goals as goal

pub from_terms-requires : goal.from_terms-requires
from_terms-requires c =
    let whole = c.in_ok-push_raised.ensures ∙ ap (λ z. z ++ raised_terms c.args.by c.args.v.now) c.in_ok-terms.ensures.items in
    subst (AreTermsOver c.args.ring.now) (sym whole) (raised_over c.args.ring.now c.args.by c.args.v.now c.requires.terms)

pub returns-clause-sum : goal.returns-clause-sum
returns-clause-sum c =
    let n = variables c.args.ring.now in
    let whole = c.in_ok-push_raised.ensures ∙ ap (λ z. z ++ raised_terms c.args.by c.args.v.now) c.in_ok-terms.ensures.items in
    subst (λ z. IfOk c.from_terms.result (λ u. StandsFor c.args.ring.now u z)) (ap (λ v. sum_of n v) whole ∙ sum_raised n c.args.by c.args.v.now) c.from_terms.ensures.same

pub push_raised-requires-clause-positions : goal.push_raised-requires-clause-positions
push_raised-requires-clause-positions c = c.requires.positions

pub push_raised-requires-clause-room : goal.push_raised-requires-clause-room
push_raised-requires-clause-room c = c.requires.room
