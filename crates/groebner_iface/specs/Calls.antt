-- Why a call that takes an engine has no answer
use Rattle.std.specs.Prelude.{List, Option, Some, ℕ, ◌≡◌}
use Rattle.term_lists.specs.declared.key.Key.{Key}
use Rattle.term_lists.specs.declared.ring.Ring.{Ring}
use Rattle.module_vectors.specs.declared.trail.KeptTrail.{KeptTrail}
use Rattle.risen_counts.specs.Counts.{Rose}
use Rattle.groebner_iface.specs.Runs.{StoppedRun}
use Rattle.groebner_iface.specs.declared.stop.OpStop.{OpStop}
use Rattle.groebner_iface.specs.declared.stop.OpStop.TheVariants.{Memory, Pairs, Degree, Trail}
use Rattle.groebner_iface.specs.declared.stop.Stop.{Stop}
use Rattle.groebner_iface.specs.declared.stop.Stop.TheVariants as runs

-- a run stopped: the engine's count rose, and it keeps the run, which is one of these, with this answer
abbrev pub StopsAtRun : (Ring → ℕ → List (List (Key × ℕ)) → Type 0) → (old new : ℕ) → Option StoppedRun → Stop → Type 0
StopsAtRun Runs old new kept answer =
    Rose old new × ((ring : Ring) × (rank : ℕ) × (list : List (List (Key × ℕ))) × Runs ring rank list
    × (kept ≡ Some (record { ring = ring; rank = rank; list = list; answer = answer })))

-- Why a call has no answer that needs these runs and can meet these trails outside of them: memory was wanting, a run
-- stopped, or a product of too great a degree was needed at the end of a trail. But for a run that stopped, the engine's
-- count and its kept run are as before.
abbrev pub CallStops : (Ring → ℕ → List (List (Key × ℕ)) → Type 0) → (KeptTrail → Type 0) → (old new : ℕ) → (kept kept' : Option StoppedRun) → OpStop → Type 0
CallStops Runs Trails old new kept kept' Memory = (new ≡ old) × (kept' ≡ kept)
CallStops Runs Trails old new kept kept' Pairs = StopsAtRun Runs old new kept' runs.Pairs
CallStops Runs Trails old new kept kept' Degree = StopsAtRun Runs old new kept' runs.Degree
CallStops Runs Trails old new kept kept' (Trail t) = (new ≡ old) × (kept' ≡ kept) × Trails t

-- the trails of a call that needs no product outside of its runs
abbrev pub NoTrail : KeptTrail → Type 0
NoTrail t = ⊥
