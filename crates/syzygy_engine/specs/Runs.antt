-- The runs of an operation: their lists, and a run on what is kept of an earlier one's basis
use Rattle.std.specs.Prelude.{List, ℕ, ◌≡◌, ◌⊎◌}
use Rattle.formal_sums.specs.FormalSums.{FormalSum}
use Rattle.term_lists.specs.Rings.{ring_comparison, variables}
use Rattle.term_lists.specs.Vectors.{AreVectorsOver}
use Rattle.term_lists.specs.declared.key.Key.{Key as CodeKey}
use Rattle.term_lists.specs.declared.ring.Ring.{Ring}
use Rattle.groebner_iface.specs.Runs.{IsReducedBasisOf}
use Rattle.syzygy_engine.specs.Marking.{StandOneByOne}

-- a test of runs: a ring, a rank and a list
abbrev pub OfRuns : Type 1
OfRuns = Ring → ℕ → List (List (CodeKey × ℕ)) → Type 0

-- a list of vectors of the ring, in its own order, that stand for these formal sums
pub record AreVectorsFor (ring : Ring) (G : List (FormalSum (variables ring))) (list : List (List (CodeKey × ℕ))) : Type 0 where
  pub vectors : AreVectorsOver ring (ring_comparison ring) list
  pub stand : StandOneByOne ring list G

-- the run on a list that stands for these formal sums
abbrev pub IsRunFor : (ring : Ring) → ℕ → List (FormalSum (variables ring)) → OfRuns
IsRunFor ring rank G r m l = (r ≡ ring) × (m ≡ rank) × AreVectorsFor ring G l

-- a run, after a first one, on what is kept of the basis of that
pub record IsRunOnKept (first : OfRuns) (keep : Ring → List (List (CodeKey × ℕ)) → List (List (CodeKey × ℕ)) → Type 0)
    (ring : Ring) (rank : ℕ) (r : Ring) (m : ℕ) (l : List (List (CodeKey × ℕ))) : Type 0 where
  pub first_ring : Ring
  pub first_rank : ℕ
  pub first_list : List (List (CodeKey × ℕ))
  pub before : first first_ring first_rank first_list
  pub basis : List (List (CodeKey × ℕ))
  pub reduced : IsReducedBasisOf first_ring first_rank first_list basis
  pub kept : keep first_ring basis l
  pub own_ring : r ≡ ring
  pub own_rank : m ≡ rank

-- the runs on a list and, in the ring's own order, on what is kept of its basis
abbrev pub AreTwoRuns : OfRuns → (Ring → List (List (CodeKey × ℕ)) → List (List (CodeKey × ℕ)) → Type 0) → Ring → ℕ → OfRuns
AreTwoRuns first keep ring rank r m l = first r m l ⊎ IsRunOnKept first keep ring rank r m l
