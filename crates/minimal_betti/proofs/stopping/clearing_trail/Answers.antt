use Rattle.std.proofs.Common.{[], ap, get_or, refl, subst, sym, ◌∙◌}
use Rattle.std.proofs.lemmas.List.{get_or_default}
use Rattle.minimal_laws.specs.Cancellation.{component}
use Rattle.term_lists.specs.Rings.{variables}
use Rattle.term_lists.specs.Vectors.{sum_of}
use Rattle.column_passes.specs.Clearing.{IsMonomialAt}
use Rattle.minimal_betti.proofs.Entries.{clearing_is}
use Rattle.minimal_betti.proofs.stopping.clearing_trail.Goals as goal

pub returns-clause-trail : goal.returns-clause-trail
returns-clause-trail c =
    let ring = c.args.ring.now in
    let n = variables ring in
    let row = c.args.at.row in
    let columns = c.args.columns.now in
    let x = c.index-as_slice-i.result in
    let at = c.index-as_slice-i.is ∙ ap (λ l. get_or l c.args.i x) c.as_slice.ensures ∙ get_or_default columns c.args.i x [] c.requires.index in
    let monomial = c.in_ok-vector.ensures.monomials c.args.factor (subst (λ z. IsMonomialAt row z c.args.factor) (sym at) c.requires.factor) in
    clearing_is ring columns c.args.at c.args.i c.in_ok-vector.vector c.args.factor c.args.last _
    c.requires.columns c.requires.inside c.requires.index c.requires.apart c.requires.factor monomial c.in_ok-vector.ensures.vector
    (c.in_ok-vector.ensures.entry ∙ ap (λ z. component row (sum_of n z)) at) c.requires.last c.requires.great
    c.in_ok-copied_ring.ensures.0 refl c.new.ensures c.new-2.ensures.items refl refl c.in_ok-copied_ring.ensures.1
    c.in_ok-products.ensures refl

pub returns-clause-members : goal.returns-clause-members
returns-clause-members c = c.in_ok-copied_ring.ensures.1
