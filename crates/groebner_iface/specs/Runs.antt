-- Runs of an engine
use Rattle.std.specs.Prelude.{List, Option, Some, ℕ, ◌≡◌}
use Rattle.formal_sums.specs.FormalSums.{Each}
use Rattle.bases.specs.Bases.{IsReducedBasis}
use Rattle.term_lists.specs.Rings.{ring_comparison, setting, variables}
use Rattle.term_lists.specs.Vectors.{AreVectorsOver, HasPositions, sums_of}
use Rattle.term_lists.specs.declared.key.Key.{Key as CodeKey}
use Rattle.term_lists.specs.declared.ring.Ring.{Ring}
use Rattle.risen_counts.specs.Counts.{Rose}
use Rattle.groebner_iface.specs.declared.stop.Stop.{Stop}
use Rattle.groebner_iface.specs.declared.stop.Stop.TheVariants.{Memory, Pairs, Degree}

-- the answer is the reduced Gröbner basis of the list, in the ring's own order (IVA chapter 2, section 7)
pub record IsReducedBasisOf (ring : Ring) (rank : ℕ) (list answer : List (List (CodeKey × ℕ))) : Type 0 where
  pub vectors : AreVectorsOver ring (ring_comparison ring) answer
  pub positions : Each (HasPositions rank) answer
  pub basis :
      let n = variables ring in
      IsReducedBasis (setting ring n (ring_comparison ring n) rank) (sums_of n list) (sums_of n answer)

-- a run that stopped early: what it was to compute, and its answer, Pairs or Degree
pub record StoppedRun : Type 0 where
  pub ring : Ring
  pub rank : ℕ
  pub list : List (List (CodeKey × ℕ))
  pub answer : Stop

-- Memory leaves the count and the kept run as they were; Pairs and Degree come where the count rose, and this run with this answer is kept
abbrev pub StopsRun : (before now : ℕ) → (kept new : Option StoppedRun) → Ring → ℕ → List (List (CodeKey × ℕ)) → Stop → Type 0
StopsRun before now kept new ring rank list Memory = (now ≡ before) × (new ≡ kept)
StopsRun before now kept new ring rank list Pairs =
    Rose before now × (new ≡ Some (record { ring = ring; rank = rank; list = list; answer = Pairs }))
StopsRun before now kept new ring rank list Degree =
    Rose before now × (new ≡ Some (record { ring = ring; rank = rank; list = list; answer = Degree }))
