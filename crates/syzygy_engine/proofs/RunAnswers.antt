-- What a run answers, and a stop after one
use Rattle.std.proofs.Common.{List, Option, subst, ℕ, ◌≡◌}
use Rattle.std.specs.Prelude.{◌↔◌}
use Rattle.formal_sums.specs.Combinations.{IsMember}
use Rattle.formal_sums.specs.FormalSums.{Each, FormalSum}
use Rattle.bases.specs.Settings.{IsLawful, Setting}
use Rattle.operation_laws.proofs.RunFacts.{run_of}
use Rattle.operation_laws.proofs.Running.{run_generates, run_itself}
use Rattle.operation_laws.specs.Operations.{IsRun}
use Rattle.term_lists.specs.Rings.{ring_comparison, setting, variables}
use Rattle.term_lists.specs.Vectors.{HasPositions, sums_of}
use Rattle.term_lists.specs.declared.ring.Ring.{Ring}
use Rattle.module_vectors.specs.declared.trail.KeptTrail.{KeptTrail}
use Rattle.groebner_iface.specs.Calls.{CallStops}
use Rattle.groebner_iface.specs.Runs.{IsReducedBasisOf, StoppedRun}
use Rattle.groebner_iface.specs.declared.stop.OpStop.{OpStop}
use Rattle.syzygy_engine.specs.Runs.{OfRuns}
use Rattle.syzygy_engine.proofs.Standing.{Terms, ranks_of_positions}

-- a stop after a run that left the count and the kept run as they were
pub later_stops :
    (old mid new : ℕ) (kept half kept' : Option StoppedRun) (Runs : OfRuns) (Trails : KeptTrail → Type 0) (stop : OpStop)
    → (mid ≡ old) × (half ≡ kept) → CallStops Runs Trails mid new half kept' stop → CallStops Runs Trails old new kept kept' stop
later_stops old mid new kept half kept' Runs Trails stop same h =
    subst (λ a. CallStops Runs Trails a new kept kept' stop) same.0 (subst (λ k. CallStops Runs Trails mid new k kept' stop) same.1 h)

module _ (ring : Ring) (rank : ℕ) (lawful : IsLawful (setting ring (variables ring) (ring_comparison ring (variables ring)) rank))
    (list answer : List Terms) (low : Each (HasPositions rank) list) (run : IsReducedBasisOf ring rank list answer) where
  abbrev S : Setting (variables ring)
  S = setting ring (variables ring) (ring_comparison ring (variables ring)) rank

  given : IsRun (setting ring (variables ring) (ring_comparison ring (variables ring)) rank) (sums_of (variables ring) list) (sums_of (variables ring) answer)
  given = run_of S lawful (sums_of (variables ring) list) (sums_of (variables ring) answer) (ranks_of_positions (variables ring) rank list low) run.basis

  -- the answer is a basis of itself
  pub own_basis : IsReducedBasisOf ring rank answer answer
  own_basis = record {
    vectors = run.vectors;
    positions = run.positions;
    basis = run_itself S lawful (sums_of (variables ring) list) (sums_of (variables ring) answer) given;
  }

  -- and has the members of the list's module
  pub members_of_run :
      (v : FormalSum (variables ring)) → IsMember ring.modulus.value (sums_of (variables ring) answer) v ↔ IsMember ring.modulus.value (sums_of (variables ring) list) v
  members_of_run v = run_generates S lawful (sums_of (variables ring) list) (sums_of (variables ring) answer) given v
