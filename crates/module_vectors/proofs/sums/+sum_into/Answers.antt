use Rattle.term_lists.specs.Rings.{variables}
use Rattle.term_lists.specs.Vectors.{sum_of}
use Rattle.module_vectors.proofs.SumsOfProducts.{sum_of_parts}
use Rattle.module_vectors.proofs.sums.+sum_into.Goals as goal

pub returns-clause-sum : goal.returns-clause-sum
returns-clause-sum g t c =
    let n = variables (g.F.Frame.over c.args.frame.now) in
    sum_of_parts n _ _ c.args.products.now (sum_of n c.merge_lists.new.out.items) _ _
    (rw c.split_at.ensures.front at c.in_ok-sum_into.ensures.sum)
    (rw c.split_at.ensures.back at c.in_ok-sum_into-2.ensures.sum)
    c.in_ok-merge_lists.ensures.sum
