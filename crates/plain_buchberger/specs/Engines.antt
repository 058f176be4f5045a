-- What contracts see of the engine
use Rattle.std.specs.Prelude.{Option, Some, min, ℕ, ◌+◌, ◌-◌, ◌^◌, ◌≡◌, ◌≤◌}
use Rattle.module_vectors.specs.declared.trail.KeptTrail.{KeptTrail}
use Rattle.queue_updates.specs.declared.Update.{Update}
use Rattle.basis_core.specs.Members.{Shared}
use Rattle.basis_core.specs.Shown.{Shown}
use Rattle.risen_counts.specs.Counts.{next_count}
use Rattle.groebner_iface.specs.declared.stop.Stop.{Stop}
use Rattle.groebner_iface.specs.declared.stop.Stop.TheVariants.{Memory, Pairs, Degree}
use Rattle.run_endings.specs.Stops.{IsKeptWhereCounted, IsStop, stopped_on, stopped_run}
use Rattle.plain_buchberger.specs.Runs.{KeptLeaves}

-- its budget of pairs, and what its runs queue as members come; how often it ran, and how many runs stopped; the state and the trail
-- that are kept of the last one of them
pub record PlainShown : Type 0 where
  pub pairs : ℕ
  pub update : Update
  pub runs : ℕ
  pub stops : ℕ
  pub state : Option Shown
  pub trail : Option KeptTrail

-- what is kept is of a run of this engine that stopped, and it is counted; one by the budget leaves a pair
pub record IsKeptByPlain (e : PlainShown) : Type 0 where
  pub stop : IsStop e.pairs 1 e.update e.state e.trail
  pub counted : IsKeptWhereCounted e.stops (stopped_run e.state e.trail)
  pub left : KeptLeaves e.state e.trail

-- the engine with one run more
abbrev pub plain_with_run : PlainShown → PlainShown
plain_with_run e = record e { runs = next_count e.runs }

-- one more run that stopped is counted, up to 2 ^ 64 - 1; budget, update and the count of runs are the same
pub record CountsPlainStop (old new : PlainShown) : Type 0 where
  pub pairs : new.pairs ≡ old.pairs
  pub update : new.update ≡ old.update
  pub runs : new.runs ≡ old.runs
  pub stops : new.stops ≡ min (old.stops + 1) (2 ^ 64 - 1)
  pub later : old.stops ≤ new.stops

-- Memory leaves the engine as it was; Pairs and Degree are counted, and the run on these is kept with the answer
abbrev pub PlainStops : (old new : PlainShown) → Shared → Stop → Type 0
PlainStops old new shared Memory = new ≡ old
PlainStops old new shared Pairs = CountsPlainStop old new × (stopped_run new.state new.trail ≡ Some (stopped_on shared Pairs))
PlainStops old new shared Degree = CountsPlainStop old new × (stopped_run new.state new.trail ≡ Some (stopped_on shared Degree))
