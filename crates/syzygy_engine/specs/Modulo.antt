-- The runs that give the syzygies of one list modulo another (UAG chapter 5, section 3)
use Rattle.std.specs.Prelude.{List, length, ℕ, ◌++◌, ◌+◌}
use Rattle.formal_sums.specs.FormalSums.{FormalSum}
use Rattle.syzygy_laws.specs.Kernels.{kernel_of}
use Rattle.syzygy_laws.specs.Syzygies.{marked}
use Rattle.term_lists.specs.Rings.{variables}
use Rattle.term_lists.specs.Vectors.{sums_of}
use Rattle.term_lists.specs.declared.ring.Ring.{Ring}
use Rattle.syzygy_engine.specs.Marking.{position_ring}
use Rattle.syzygy_engine.specs.Runs.{AreTwoRuns, AreVectorsFor, IsRunFor, OfRuns}

-- the runs on X, vectors of rank q, with a mark each, and Y, without: position over term, and in the ring's own order on
-- what vanishes before the marks
abbrev pub AreModuloRuns : (ring : Ring) → (q : ℕ) → (X Y : List (FormalSum (variables ring))) → OfRuns
AreModuloRuns ring q X Y =
    AreTwoRuns (IsRunFor (position_ring ring) (q + length X) (marked q 0 X ++ Y))
    (λ first basis l. AreVectorsFor ring (kernel_of q (sums_of (variables ring) basis)) l) ring (length X)
