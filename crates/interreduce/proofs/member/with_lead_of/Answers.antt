use Rattle.std.proofs.Common.{ap, ◌∙◌, ◌∷◌}
use Rattle.interreduce.proofs.Tails.{with_lead}
use Rattle.interreduce.proofs.member.with_lead_of.Goals as goal

pub from_ordered-requires : goal.from_ordered-requires
from_ordered-requires g c =
    let lead = c.index-terms-0.result in
    let key = c.in_ok-try_copy.field-0 in
    (with_lead (g.F.Frame.over c.args.frame.now) (g.F.Frame.compare c.args.frame.now) c.args.v.now c.args.rest c.terms.result.now _ key lead
    c.requires.some c.requires.vector c.requires.rest c.requires.below c.terms.ensures c.index-terms-0.is c.in_ok-try_copy.ensures.ok
    (c.in_ok-insert.ensures.items ∙ ap (λ r. (key, lead.1) ∷ r) c.into_terms-terms.ensures)).0

pub returns-clause-vector : goal.returns-clause-vector
returns-clause-vector g c =
    let lead = c.index-terms-0.result in
    let key = c.in_ok-try_copy.field-0 in
    (with_lead (g.F.Frame.over c.args.frame.now) (g.F.Frame.compare c.args.frame.now) c.args.v.now c.args.rest c.terms.result.now _ key lead
    c.requires.some c.requires.vector c.requires.rest c.requires.below c.terms.ensures c.index-terms-0.is c.in_ok-try_copy.ensures.ok
    (c.from_ordered.ensures ∙ c.in_ok-insert.ensures.items ∙ ap (λ r. (key, lead.1) ∷ r) c.into_terms-terms.ensures)).0

pub returns-clause-terms : goal.returns-clause-terms
returns-clause-terms g c =
    let lead = c.index-terms-0.result in
    let key = c.in_ok-try_copy.field-0 in
    (with_lead (g.F.Frame.over c.args.frame.now) (g.F.Frame.compare c.args.frame.now) c.args.v.now c.args.rest c.terms.result.now _ key lead
    c.requires.some c.requires.vector c.requires.rest c.requires.below c.terms.ensures c.index-terms-0.is c.in_ok-try_copy.ensures.ok
    (c.from_ordered.ensures ∙ c.in_ok-insert.ensures.items ∙ ap (λ r. (key, lead.1) ∷ r) c.into_terms-terms.ensures)).1
