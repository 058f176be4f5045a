-- Stops of a call: by which runs and which trails, said of others
use Rattle.std.proofs.Common.{List, None, Option, ap, get_or, length, refl, subst₂, ℕ, ◌<◌, ◌≡◌}
use Rattle.std.specs.Prelude.{is_some}
use Rattle.term_lists.specs.declared.key.Key.{Key}
use Rattle.term_lists.specs.declared.ring.Ring.{Ring}
use Rattle.module_vectors.specs.declared.trail.KeptTrail.{KeptTrail}
use Rattle.groebner_iface.specs.Calls.{CallStops, NoTrail}
use Rattle.groebner_iface.specs.Runs.{StoppedRun, StopsRun}
use Rattle.groebner_iface.specs.Stops.{op_stop_of_run}
use Rattle.groebner_iface.specs.declared.stop.Stop.{Stop}
use Rattle.groebner_iface.specs.declared.stop.Stop.TheVariants as runs
use Rattle.script_parse.specs.declared.named.NameInfo.{NameInfo}
use Rattle.session_reports.proofs.KeptValues.{at_place}
use Rattle.session_values.specs.Kept.{value_of}
use Rattle.session_reports.specs.Parts.{IsRunAt, IsRunToKeep}
use Rattle.session_values.specs.Held.{StoredShown}

module _ (old new : ℕ) (kept kept' : Option StoppedRun) where
  -- the stop of a run for a value, as a stop of the call that needs it
  pub run_fails :
      (Trails : KeptTrail → Type 0) (ring : Ring) (info : NameInfo) (s : StoredShown) (stop : Stop)
      → s.basis ≡ None → StopsRun old new kept kept' ring info.rank s.list stop
      → CallStops (IsRunToKeep ring (value_of info s)) Trails old new kept kept' (op_stop_of_run stop)
  run_fails Trails ring info s runs.Memory none h = h
  run_fails Trails ring info s runs.Pairs none h = (h.0, (ring, info.rank, s.list, (refl, ap is_some none, refl, refl), h.1))
  run_fails Trails ring info s runs.Degree none h = (h.0, (ring, info.rank, s.list, (refl, ap is_some none, refl, refl), h.1))

-- the run for an item and its name, as the run for the value at their place
pub placed_run :
    (over : Ring) (infos : List NameInfo) (stored : List StoredShown) (i : ℕ) (d : NameInfo) (e : StoredShown) (info : NameInfo) (s : StoredShown)
    → i < length infos → i < length stored → info ≡ get_or infos i info → s ≡ get_or stored i s
    → (ring : Ring) (rank : ℕ) (list : List (List (Key × ℕ))) → IsRunToKeep over (value_of info s) ring rank list → IsRunAt over infos stored i d e ring rank list
placed_run over infos stored i d e info s within below at_info at_item ring rank list h =
    subst₂ (λ j t. IsRunToKeep over (value_of j t) ring rank list) (at_place infos i info d within at_info) (at_place stored i s e below at_item) h

-- there is no trail
pub no_trail : (More : KeptTrail → Type 0) (t : KeptTrail) → NoTrail t → More t
no_trail More t h = absurd h
