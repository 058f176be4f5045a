use Rattle.std.proofs.Common.{take}
use Rattle.term_lists.specs.Rings.{ring_comparison}
use Rattle.term_lists.specs.Vectors.{IsVectorOver, StandsFor}
use Rattle.column_passes.specs.Clearing.{multiple_of}
use Rattle.column_passes.proofs.clearing.small_multiple.Given as goal

abbrev pub invariant-loop-term : goal.invariant-loop-term
invariant-loop-term l = record {
  vector : IsVectorOver l.ring (ring_comparison l.ring) l.out;
  sum : StandsFor l.ring l.out (multiple_of l.ring l.row l.inverse l.w (take l.term-index l.terms));
}
