use Rattle.std.specs.Prelude.{Contains}
use Rattle.std.proofs.Common.{take, ◌≡◌}
use Rattle.formal_sums.specs.FormalSums.{Each}
use Rattle.minimal_laws.specs.Cancellation.{component}
use Rattle.term_lists.specs.Rings.{variables}
use Rattle.term_lists.specs.Vectors.{AreTermsOver, sum_of}
use Rattle.column_passes.proofs.clearing.terms_in_row.Given as goal

abbrev pub invariant-loop-term : goal.invariant-loop-term
invariant-loop-term l = record {
  over : AreTermsOver l.ring l.entry.items;
  inside : Each (λ x. Contains l.terms x) l.entry.items;
  same : component l.row (sum_of (variables l.ring) l.entry.items) ≡ component l.row (sum_of (variables l.ring) (take l.term-index l.terms));
}
