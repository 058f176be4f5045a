use Rattle.std.proofs.Common.{drop, subst, sym, ap, ◌∙◌, ◌≡◌}
use Rattle.term_lists.specs.Vectors.{IsVectorOver}
use Rattle.interreduce.proofs.Tails.{tail_vector}
use Rattle.interreduce.proofs.member.tail_of.Goals as goal

pub from_ordered-requires : goal.from_ordered-requires
from_ordered-requires g c =
    let ring = g.F.Frame.over c.args.frame.now in
    let compare = g.F.Frame.compare c.args.frame.now in
    let e : c.remove.new.self.items ≡ drop 1 c.args.v.now = c.remove.ensures.by_index.2 ∙ ap (drop 1) (c.into_terms-terms.ensures ∙ c.in_ok-try_copy.ensures) in
    subst (IsVectorOver ring compare) (sym e) (tail_vector ring compare c.args.v.now c.requires.vector)

pub returns : goal.returns
returns g c =
    c.from_ordered.ensures ∙ c.remove.ensures.by_index.2 ∙ ap (drop 1) (c.into_terms-terms.ensures ∙ c.in_ok-try_copy.ensures)
