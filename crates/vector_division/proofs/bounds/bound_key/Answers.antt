use Rattle.std.proofs.Common.{ap, get_or, length, subst, ◌<◌, ◌∙◌}
use Rattle.vector_division.proofs.Advancing.{bound_at}
use Rattle.vector_division.proofs.bounds.bound_key.Goals as goal

pub returns-then-at-terms : goal.returns-then-at-terms
returns-then-at-terms c = λ n.
    bound_at n c.args.v.now c.args.at c.index-terms-at.result (subst (λ v. c.args.at < length v) c.terms.ensures c.if-at-terms.true)
    (c.index-terms-at.is ∙ ap (λ v. get_or v c.args.at c.index-terms-at.result) c.terms-then-at-terms.ensures)
    c.bound_position.ensures (c.bounds.ensures.within n)
