use Rattle.std.proofs.Common.{subst, sym, ◌∙◌}
use Rattle.formal_sums.specs.FormalSums.{IsSame, product}
use Rattle.term_lists.specs.Vectors.{sum_of}
use Rattle.term_tables.proofs.Sums.{product_joined}
use Rattle.term_tables.specs.Tables.{ranked_sum}
use Rattle.term_tables.proofs.product.multiply.Goals as goal

pub returns-clause-product : goal.returns-clause-product
returns-clause-product g c =
    product_joined (g.F.Frame.over c.args.frame.now) c.ring-ring.result.now c.args.a.now c.args.b.now c.in-Some-2.terms.items c.in_ok-from_terms.field-0 c.deref-2.result.now c.in-Some.ranked.items
    c.ring-ring.ensures (λ n. rw c.in-Some-2.is at (c.in_ok-terms.ensures.sum n))
    (λ n. subst (λ bs. IsSame c.ring-ring.result.now.modulus.value (ranked_sum n bs c.in-Some.ranked.items) (product (sum_of n c.args.a.now) (sum_of n c.args.b.now)))
    (c.deref.ensures.value ∙ sym c.deref-2.ensures.value) (rw c.in-Some.is at (c.in_ok-ranked.ensures.sum n)))
    c.in_ok-from_terms.ensures.same
