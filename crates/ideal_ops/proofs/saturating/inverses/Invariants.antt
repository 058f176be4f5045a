use Rattle.std.proofs.Common.{◌-◌}
use Rattle.formal_sums.specs.FormalSums.{FormalSum, scale}
use Rattle.operation_laws.specs.Operations.{first_variable, inverse_vector, listed, with_first}
use Rattle.term_lists.specs.FrontVariables.{front_ring}
use Rattle.term_lists.specs.Rings.{variables}
use Rattle.term_lists.specs.Vectors.{StandsFor}
use Rattle.syzygy_engine.specs.Runs.{AreVectorsFor}
use Rattle.ideal_ops.proofs.saturating.inverses.Given as goal

abbrev pub invariant-loop-position : goal.invariant-loop-position
invariant-loop-position l =
    (f : FormalSum (variables l.ring))
    → StandsFor (front_ring l.ring) l.w (scale (l.ring.modulus.value - 1) (first_variable (variables l.ring)) (with_first f))
    → AreVectorsFor (front_ring l.ring) (listed 0 l.position (inverse_vector l.ring.modulus.value f)) l.list.items
