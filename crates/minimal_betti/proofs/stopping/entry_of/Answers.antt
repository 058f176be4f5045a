use Rattle.std.proofs.Common.{ap, arith, subst, sym, ◌∙◌, ◌≡◌}
use Rattle.std.proofs.lemmas.List.{take_all}
use Rattle.term_lists.specs.Rings.{ring_comparison, variables}
use Rattle.term_lists.specs.Stops.{HasMonomial}
use Rattle.term_lists.specs.Vectors.{IsVectorOver, sum_of}
use Rattle.minimal_betti.proofs.Entries.{entry_is, in_row, monomial_row, row_more, vector_row}
use Rattle.minimal_betti.proofs.stopping.entry_of.Goals as goal

pub loop-term-preserved : goal.loop-term-preserved
loop-term-preserved c =
    row_more c.args.row c.terms-term-items.result.now c.loop-term.terms.items c.push_in_row.new.terms.items c.loop-term.term-index c.term-item.result
    (omega arith) c.term-item.is
    c.loop-term.invariant c.in_ok-push_in_row.ensures

pub from_ordered-requires : goal.from_ordered-requires
from_ordered-requires c =
    let ring = c.args.ring.now in
    let all : c.loop-term.terms.items ≡ in_row c.args.row c.args.v.now =
    c.loop-term.invariant ∙ ap (in_row c.args.row) (take_all c.loop-term.term-index c.terms-term-items.result.now (omega arith) ∙ c.terms-term-items.ensures)
    in
    subst (IsVectorOver ring (ring_comparison ring)) (sym all) (vector_row ring c.args.row c.args.v.now c.requires)

pub returns-clause-vector : goal.returns-clause-vector
returns-clause-vector c =
    let ring = c.args.ring.now in
    let all : c.loop-term.terms.items ≡ in_row c.args.row c.args.v.now =
    c.loop-term.invariant ∙ ap (in_row c.args.row) (take_all c.loop-term.term-index c.terms-term-items.result.now (omega arith) ∙ c.terms-term-items.ensures)
    in
    subst (IsVectorOver ring (ring_comparison ring)) (sym (c.from_ordered.ensures ∙ all)) (vector_row ring c.args.row c.args.v.now c.requires)

pub returns-clause-entry : goal.returns-clause-entry
returns-clause-entry c =
    let n = variables c.args.ring.now in
    let all : c.loop-term.terms.items ≡ in_row c.args.row c.args.v.now =
    c.loop-term.invariant ∙ ap (in_row c.args.row) (take_all c.loop-term.term-index c.terms-term-items.result.now (omega arith) ∙ c.terms-term-items.ensures)
    in
    ap (sum_of n) (c.from_ordered.ensures ∙ all) ∙ entry_is n c.args.row c.args.v.now

pub returns-clause-monomials : goal.returns-clause-monomials
returns-clause-monomials c = λ m h.
    let all : c.loop-term.terms.items ≡ in_row c.args.row c.args.v.now =
    c.loop-term.invariant ∙ ap (in_row c.args.row) (take_all c.loop-term.term-index c.terms-term-items.result.now (omega arith) ∙ c.terms-term-items.ensures)
    in
    subst (λ z. HasMonomial z m) (sym (c.from_ordered.ensures ∙ all)) (monomial_row c.args.row c.args.v.now m h)
