use Rattle.std.proofs.Common.{subst}
use Rattle.formal_sums.proofs.Sameness.{IsSame_trans}
use Rattle.formal_sums.specs.FormalSums.{IsSame}
use Rattle.term_tables.proofs.Numbers.{no_carries}
use Rattle.term_tables.specs.Digits.{packed_sum}
use Rattle.term_tables.specs.Tables.{ranked_sum}
use Rattle.term_tables.proofs.product.by_slots.Goals as goal

pub returns-clause-sum : goal.returns-clause-sum
returns-clause-sum c = λ n.
    let bs = c.args.bases.now in
    let p = c.args.ring.now.modulus.value in
    IsSame_trans
    (subst (λ xs. IsSame p (ranked_sum n bs c.in_ok-ranked_slots.field-0.items) (packed_sum n bs xs)) c.deref.ensures.value (c.in_ok-ranked_slots.ensures.sum n))
    (rw c.in-Some.is at (c.in_ok-slots.ensures n p bs c.square.ensures.multiple (no_carries p bs c.args.left.now c.args.right.now c.requires.left c.requires.right)))
