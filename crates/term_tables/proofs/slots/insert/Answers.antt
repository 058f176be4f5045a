use Rattle.std.proofs.Common.{ap, subst, ◌∙◌}
use Rattle.formal_sums.proofs.Sameness.{IsSame_trans}
use Rattle.formal_sums.specs.FormalSums.{IsSame}
use Rattle.term_tables.proofs.Sums.{IsSame_cons}
use Rattle.term_tables.specs.Digits.{monomial_at, packed_sum}
use Rattle.term_tables.proofs.slots.insert.Goals as goal

pub returns : goal.returns
returns c = λ n p bs z done.
    IsSame_trans (c.put-2.ensures.sum n p bs z done)
    (IsSame_cons ((0, monomial_at n bs c.args.key), c.args.c)
    (subst (λ xs. IsSame p (packed_sum n bs c.in-Some.larger.items) (packed_sum n bs xs)) (c.deref.ensures.value ∙ ap (λ v. v.items) (c.put.ensures.unchanged c.if-put.false))
    (rw c.in-Some.is at (c.in_ok-larger.ensures n p bs z))))
