use Rattle.std.proofs.Common.{[], get_or, subst, sym, ◌∙◌, ◌∷◌, ◌≡◌}
use Rattle.formal_sums.proofs.Combining.{Each_map}
use Rattle.term_lists.proofs.Parts.{Each_member}
use Rattle.term_lists.specs.Vectors.{IsMonomialOver, IsVectorOver}
use Rattle.interreduce.proofs.tail_keys.put_tail.Goals as goal

pub put_free-requires-clause-terms : goal.put_free-requires-clause-terms
put_free-requires-clause-terms g c =
    let ring = g.F.Frame.over c.args.frame.now in
    let over = IsVectorOver ring (g.F.Frame.compare c.args.frame.now) in
    let list = g.L.Vectors.listed c.args.list.now in
    let first = c.in-Some.field-0-0.now in
    let tail = c.in-Some.tail.now in
    let same : get_or list c.args.index [] ≡ first ∷ tail = sym (c.terms.ensures ∙ c.at.ensures) ∙ c.in-Some.ensures.cases.0 in
    let vector : over (first ∷ tail) = subst over same (Each_member over list c.args.index [] c.requires.vectors c.requires.index) in
    Each_map _ (λ t. IsMonomialOver ring t.0.monomial) tail (λ t h. h.weighed) vector.each.1
