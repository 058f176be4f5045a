use Rattle.std.proofs.Common.{subst, subst₂, sym, ◌∙◌}
use Rattle.term_lists.specs.Rings.{variables}
use Rattle.term_lists.specs.Vectors.{IsMonomialOver}
use Rattle.vector_division.proofs.Looping.{are_weighed}
use Rattle.vector_division.specs.Progress.{AreWeighed}
use Rattle.induced_leads.specs.Spans.{IsIndexOf}
use Rattle.induced_leads.specs.Sifting.{IsSifting, IsTermSifted}
use Rattle.induced_leads.proofs.Dropping.{next_weighed, sift_next, sift_start}
use Rattle.induced_leads.proofs.sifting.covered_terms.Goals as goal

pub sift_term-requires-clause-key : goal.sift_term-requires-clause-key
sift_term-requires-clause-key g c =
    let ring = g.F.Frame.over c.args.frame.now in
    subst (λ r. IsMonomialOver r c.in-Some.term.0.monomial) (sym c.ring-ring.ensures)
    (next_weighed ring (g.F.Frame.compare c.args.frame.now) c.args.columns.now c.args.v c.loop-term.kept.items c.pop_front.new.self.items c.in-Some.term
    (subst (IsSifting ring (g.F.Frame.compare c.args.frame.now) c.args.columns.now c.args.v c.loop-term.kept.items) c.in-Some.ensures.items c.loop-term.invariant))

pub sift_term-requires-clause-columns : goal.sift_term-requires-clause-columns
sift_term-requires-clause-columns g c =
    let ring = g.F.Frame.over c.args.frame.now in
    let n = variables ring in
    subst₂ (λ r z. AreWeighed (variables r) r.weights z) (sym c.ring-ring.ensures) (sym c.as_slice.ensures) (are_weighed n ring.weights ring.modulus.value (g.F.Frame.compare c.args.frame.now n) c.args.columns.now c.requires.vectors)

pub loop-term-preserved : goal.loop-term-preserved
loop-term-preserved g c =
    let ring = g.F.Frame.over c.args.frame.now in
    sift_next ring (g.F.Frame.compare c.args.frame.now) c.args.columns.now c.args.v c.loop-term.kept.items c.pop_front.new.self.items c.sift_term.new.kept.items c.in-Some.term
    (subst (IsSifting ring (g.F.Frame.compare c.args.frame.now) c.args.columns.now c.args.v c.loop-term.kept.items) c.in-Some.ensures.items c.loop-term.invariant)
    (subst₂ (λ r z. IsTermSifted (variables r) z c.in-Some.term c.loop-term.kept.items c.sift_term.new.kept.items) c.ring-ring.ensures c.as_slice.ensures c.in_ok-sift_term.ensures)

pub sift_term-requires-clause-index : goal.sift_term-requires-clause-index
sift_term-requires-clause-index g c = subst (λ z. IsIndexOf z c.args.index.now) (sym c.as_slice.ensures) c.requires.index

pub loop-term-init : goal.loop-term-init
loop-term-init g c =
    let ring = g.F.Frame.over c.args.frame.now in
    let compare = g.F.Frame.compare c.args.frame.now in
    let all = c.from_vec-rest.ensures.items ∙ c.into_terms.ensures in
    subst (λ z. IsSifting ring compare c.args.columns.now c.args.v z c.from_vec-rest.result.items) (sym c.new-kept.ensures.items)
    (sift_start ring compare c.args.columns.now c.args.v c.from_vec-rest.result.items all c.requires.vector)
