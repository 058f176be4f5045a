use Rattle.std.proofs.Common.{}
use Rattle.complements.specs.Combining.{HasZeroSums}
use Rattle.complements.specs.Complements.{IsComplement}
use Rattle.term_lists.specs.Rings.{ring_comparison}
use Rattle.term_lists.specs.Vectors.{IsVectorOver}
use Rattle.complements.proofs.clearing.complement.Given as goal

abbrev pub invariant-loop-level : goal.invariant-loop-level
invariant-loop-level l = record {
  sum : IsComplement l.ring l.columns l.fn.v l.out;
  vector : IsVectorOver l.ring (ring_comparison l.ring) l.out;
  cleared : HasZeroSums l.ring l.columns l.accumulator;
}
