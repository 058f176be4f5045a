use Rattle.std.proofs.Common.{[], get_or, ℕ, ◌<◌}
use Rattle.minimal_laws.specs.Minimal.{IsConstantAt}
use Rattle.term_lists.specs.Rings.{variables}
use Rattle.term_lists.specs.Vectors.{sums_of}
use Rattle.column_passes.proofs.constants.first_constant.Given as goal

abbrev pub invariant-loop-column : goal.invariant-loop-column
invariant-loop-column l = (b q : ℕ) → b < l.column → IsConstantAt l.ring.modulus.value (get_or (sums_of (variables l.ring) l.columns) b []) q → ⊥
