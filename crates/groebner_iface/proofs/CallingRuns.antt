-- Stops of a call: of its runs, and of more runs and trails
use Rattle.std.proofs.Common.{List, Option, ℕ}
use Rattle.term_lists.specs.declared.key.Key.{Key}
use Rattle.term_lists.specs.declared.ring.Ring.{Ring}
use Rattle.module_vectors.specs.declared.trail.KeptTrail.{KeptTrail}
use Rattle.groebner_iface.specs.Calls.{CallStops}
use Rattle.groebner_iface.specs.Runs.{StoppedRun, StopsRun}
use Rattle.groebner_iface.specs.Stops.{op_stop_of_run}
use Rattle.groebner_iface.specs.declared.stop.OpStop.{OpStop}
use Rattle.groebner_iface.specs.declared.stop.OpStop.TheVariants as causes
use Rattle.groebner_iface.specs.declared.stop.Stop.{Stop}
use Rattle.groebner_iface.specs.declared.stop.Stop.TheVariants as runs

module _ (old new : ℕ) (kept kept' : Option StoppedRun) where
  -- the stop of a run that the call needs
  pub run_stops :
      (Runs : Ring → ℕ → List (List (Key × ℕ)) → Type 0) (Trails : KeptTrail → Type 0) (ring : Ring) (rank : ℕ) (list : List (List (Key × ℕ))) (stop : Stop)
      → Runs ring rank list → StopsRun old new kept kept' ring rank list stop → CallStops Runs Trails old new kept kept' (op_stop_of_run stop)
  run_stops Runs Trails ring rank list runs.Memory is h = h
  run_stops Runs Trails ring rank list runs.Pairs is h = (h.0, (ring, rank, list, is, h.1))
  run_stops Runs Trails ring rank list runs.Degree is h = (h.0, (ring, rank, list, is, h.1))

  -- what stops a call stops one that needs the same runs and can meet the same trails, and more
  pub more_stops :
      (Runs Others : Ring → ℕ → List (List (Key × ℕ)) → Type 0) (Trails More : KeptTrail → Type 0)
      → ((ring : Ring) (rank : ℕ) (list : List (List (Key × ℕ))) → Runs ring rank list → Others ring rank list)
      → ((t : KeptTrail) → Trails t → More t)
      → (stop : OpStop) → CallStops Runs Trails old new kept kept' stop → CallStops Others More old new kept kept' stop
  more_stops Runs Others Trails More needs meets causes.Memory h = h
  more_stops Runs Others Trails More needs meets causes.Pairs h = (h.0, (h.1.0, h.1.1, h.1.2, needs h.1.0 h.1.1 h.1.2 h.1.3, h.1.4))
  more_stops Runs Others Trails More needs meets causes.Degree h = (h.0, (h.1.0, h.1.1, h.1.2, needs h.1.0 h.1.1 h.1.2 h.1.3, h.1.4))
  more_stops Runs Others Trails More needs meets (causes.Trail t) h = (h.0, h.1, meets t h.2)
