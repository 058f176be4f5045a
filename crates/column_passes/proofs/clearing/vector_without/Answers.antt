use Rattle.std.proofs.Common.{ap, not, rules, subst, sym, ◌==◌, ◌∙◌, ◌≡◌}
use Rattle.std.proofs.lemmas.Fn.{filter_same}
use Rattle.std.specs.List.{filter}
use Rattle.term_lists.specs.Rings.{ring_comparison}
use Rattle.term_lists.specs.Vectors.{IsVectorOver, sum_of}
use Rattle.column_passes.specs.Clearing.{lowered_behind}
use Rattle.column_passes.proofs.Lowering.{lowered_filter, vector_without_row, without_sum, without_terms}
use Rattle.column_passes.proofs.clearing.vector_without.Goals as goal

pub from_ordered-requires : goal.from_ordered-requires
from_ordered-requires c =
    let ring = c.args.ring.now in
    let row = c.args.row in
    let all : c.lower_terms.new.terms.items ≡ without_terms row c.args.v =
    c.lower_terms.ensures ∙ ap (lowered_behind row) (filter_same _ _ _ (λ x b f' k. search rules) _ _ c.retain.ensures.filtered)
    ∙ ap (λ z. lowered_behind row (filter (λ t. not (t.0.position == row)) z)) c.into_terms-terms.ensures ∙ lowered_filter row c.args.v
    in
    subst (IsVectorOver ring (ring_comparison ring)) (sym all) (vector_without_row ring row c.args.v c.requires)

pub returns-clause-vector : goal.returns-clause-vector
returns-clause-vector c =
    let ring = c.args.ring.now in
    let row = c.args.row in
    let all : c.lower_terms.new.terms.items ≡ without_terms row c.args.v =
    c.lower_terms.ensures ∙ ap (lowered_behind row) (filter_same _ _ _ (λ x b f' k. search rules) _ _ c.retain.ensures.filtered)
    ∙ ap (λ z. lowered_behind row (filter (λ t. not (t.0.position == row)) z)) c.into_terms-terms.ensures ∙ lowered_filter row c.args.v
    in
    subst (IsVectorOver ring (ring_comparison ring)) (sym (c.from_ordered.ensures ∙ all)) (vector_without_row ring row c.args.v c.requires)

pub returns-clause-sum : goal.returns-clause-sum
returns-clause-sum c = λ n.
    let row = c.args.row in
    let all : c.lower_terms.new.terms.items ≡ without_terms row c.args.v =
    c.lower_terms.ensures ∙ ap (lowered_behind row) (filter_same _ _ _ (λ x b f' k. search rules) _ _ c.retain.ensures.filtered)
    ∙ ap (λ z. lowered_behind row (filter (λ t. not (t.0.position == row)) z)) c.into_terms-terms.ensures ∙ lowered_filter row c.args.v
    in
    ap (sum_of n) (c.from_ordered.ensures ∙ all) ∙ without_sum n row c.args.v
