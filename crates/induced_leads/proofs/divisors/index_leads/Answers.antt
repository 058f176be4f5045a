use Rattle.std.proofs.Common.{List, ℕ, [], arith, get_or, length, refl, subst, sym, ◌+◌, ◌<◌, ◌≡◌, ◌∙◌}
use Rattle.std.proofs.lemmas.List.{get_or_default}
use Rattle.vector_division.specs.Marks.{IsMarkOf}
use Rattle.induced_leads.specs.declared.divisors.Span.{Span}
use Rattle.induced_leads.proofs.Pushing.{pushed_each}
use Rattle.induced_leads.specs.Reaching.{OccurInLead}
use Rattle.induced_leads.proofs.Finding.{marks_more, spans_more, spans_same}
use Rattle.induced_leads.proofs.divisors.index_leads.Goals.{in-Some+in_ok-widen, in_default}
use Rattle.induced_leads.proofs.divisors.index_leads.Goals as goal

pub loop-i-preserved : goal.loop-i-preserved
loop-i-preserved c =
    let cols = c.args.columns.now in
    let i = c.loop-i.i in
    let lt : i < length cols = omega arith in
    let v = c.index-columns-i.result in
    let b = c.index-columns-i-in-loop-i.result in
    let w = c.index-columns-i-in-loop-i-2.result in
    let place : Span = record { from = i; to = i + 1 } in
    record {
      count = omega arith;
      room = omega arith;
      each = subst (λ (xs : _). (j : _) (x : _) → j < i + 1 → x ≡ get_or xs j x → IsMarkOf (get_or cols j []) x) (sym c.push_reserved.ensures.items)
          (marks_more (λ j x. IsMarkOf (get_or cols j []) x) c.loop-i.marks.items c.mark_of.result i (omega arith) c.loop-i.invariant.each
          (subst (λ z. IsMarkOf z c.mark_of.result) (c.index-columns-i.is ∙ get_or_default cols i v [] lt) c.mark_of.ensures));
      bits = omega arith;
      bits_room = omega arith;
      lead_bits = subst (λ (xs : List ℕ). (j : ℕ) → j < i + 1 → OccurInLead (get_or cols j []) (get_or xs j 0)) (sym c.push_reserved-in-loop-i.ensures.items)
          (pushed_each (λ j x. OccurInLead (get_or cols j []) x) c.loop-i.variables.items c.lead_variables.result i (omega arith) c.loop-i.invariant.lead_bits
          (subst (λ z. OccurInLead z c.lead_variables.result) (c.index-columns-i-in-loop-i.is ∙ get_or_default cols i b [] lt) c.lead_variables.ensures));
      spans = elim c.match-lead.branch [
        | in-Some+in_ok-widen x ↦ (rw x.spans-is (spans_more cols c.loop-i.spans.items x.widen.new.spans.items i w c.index-columns-i-in-loop-i-2.is lt c.loop-i.invariant.spans
            (x.in-Some.lead.key.now, x.in-Some.lead.residue) x.in-Some.ensures.0 place x.in-Some.ensures.1 (omega arith) (omega arith) x.in_ok-widen.ensures))
        | in_default x ↦ (rw x.spans-is (spans_same cols c.loop-i.spans.items c.loop-i.spans.items i w c.index-columns-i-in-loop-i-2.is lt c.loop-i.invariant.spans x.in_default.ensures refl))
      ];
    }
