-- What the calls for minimal resolutions say
use Rattle.std.specs.Prelude.{List, ⊤, ℕ, ◌≡◌}
use Rattle.minimal_betti.specs.Graded.{AreMapsOver, graded_of}
use Rattle.minimal_betti.specs.Tables.{IsBettiTable}
use Rattle.minimal_betti.specs.declared.tables.BettiEntry.{BettiEntry}
use Rattle.minimal_laws.specs.Cancellation.{AreSameMaps}
use Rattle.minimal_laws.specs.Gradings.{GradedMaps}
use Rattle.betti_laws.specs.Tables.{step_count}
use Rattle.term_lists.specs.Rings.{variables}
use Rattle.term_lists.specs.declared.key.Key.{Key}
use Rattle.term_lists.specs.declared.ring.Ring.{Ring}
use Rattle.module_vectors.specs.declared.trail.WorkStop.{WorkStop}
use Rattle.module_vectors.specs.declared.trail.WorkStop.TheVariants.{Degree, Memory}
use Rattle.resolution_maps.specs.Resolved.{AreJoined}
use Rattle.resolution_maps.specs.declared.maps.Resolution.{Resolution}
use Rattle.session_reports.specs.Minimising.{IsCancelledBasis, IsMinimalTrail, IsResolvedBasis}

-- the resolution is what is left of the canonical one of the basis, and so a minimal one
pub record IsCancelledAs (ring : Ring) (rank : ℕ) (basis : List (List (Key × ℕ))) (s : Resolution) : Type 0 where
  pub left : GradedMaps (variables ring)
  pub cancelled : IsCancelledBasis ring rank basis left
  pub positions : left.positions ≡ s.positions.items
  pub same : AreSameMaps ring.modulus.value left.maps (graded_of ring s).maps
  pub vectors : AreMapsOver ring s
  pub joined : AreJoined ring s.positions.items s.maps.items
  pub resolved : IsResolvedBasis ring rank basis (graded_of ring s)

-- the entries are the table of a minimal resolution of the basis
pub record IsTableOfBasis (ring : Ring) (rank : ℕ) (basis : List (List (Key × ℕ))) (entries : List BettiEntry) : Type 0 where
  pub resolution : GradedMaps (variables ring)
  pub resolved : IsResolvedBasis ring rank basis resolution
  pub table : IsBettiTable (step_count resolution.positions resolution.maps) entries

-- Degree comes with a trail of the resolution or of a cancellation
abbrev pub StopsAsMinimal : Ring → ℕ → List (List (Key × ℕ)) → WorkStop → Type 0
StopsAsMinimal ring rank basis Memory = ⊤
StopsAsMinimal ring rank basis (Degree t) = IsMinimalTrail ring rank basis t
