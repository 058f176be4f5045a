use Rattle.std.proofs.Common.{IfOk, IfSome, ap, subst₂, ◌∙◌}
use Rattle.formal_sums.specs.FormalSums.{IsSame, product}
use Rattle.term_tables.specs.Digits.{packed_sum}
use Rattle.term_tables.specs.Tables.{ranked_sum}
use Rattle.term_tables.proofs.product.ranked_product_of_terms.Goals as goal

pub ranked_product-requires-clause-left : goal.ranked_product-requires-clause-left
ranked_product-requires-clause-left c = rw c.deref.ensures.value (rw c.in-Some.is at (c.in_ok-left.ensures.packed c.args.ring.now.modulus.value c.requires.left))

pub ranked_product-requires-clause-right : goal.ranked_product-requires-clause-right
ranked_product-requires-clause-right c = rw c.deref-2.ensures.value (rw c.in-Some-2.is at (c.in_ok-right.ensures.packed c.args.ring.now.modulus.value c.requires.right))

pub returns-clause-sum : goal.returns-clause-sum
returns-clause-sum c = λ n.
    let bs = c.args.bases.now in
    subst₂ (λ u w. IfOk c.ranked_product.result (λ o. IfSome o (λ v. IsSame c.args.ring.now.modulus.value (ranked_sum n bs v.items) (product u w))))
    (ap (packed_sum n bs) c.deref.ensures.value ∙ (rw c.in-Some.is at (c.in_ok-left.ensures.sum n)))
    (ap (packed_sum n bs) c.deref-2.ensures.value ∙ (rw c.in-Some-2.is at (c.in_ok-right.ensures.sum n)))
    (c.ranked_product.ensures.sum n)
