-- What contracts see of the engine
use Rattle.std.specs.Prelude.{IfSome, Option, Some, min, ℕ, ◌+◌, ◌-◌, ◌<◌, ◌^◌, ◌≡◌, ◌≤◌}
use Rattle.module_vectors.specs.declared.trail.KeptTrail.{KeptTrail}
use Rattle.queue_updates.specs.declared.Update.{Update}
use Rattle.basis_core.specs.Members.{Shared}
use Rattle.basis_core.specs.Shown.{Shown}
use Rattle.risen_counts.specs.Counts.{next_count}
use Rattle.groebner_iface.specs.declared.stop.Stop.{Stop}
use Rattle.groebner_iface.specs.declared.stop.Stop.TheVariants.{Memory, Pairs, Degree}
use Rattle.run_endings.specs.Stops.{IsKeptWhereCounted, IsStop, stopped_on, stopped_run}
use Rattle.f4_engine.specs.Runs.{IsLastRun, IsWorkedByAll}

-- its budget of pairs, its number of workers, that of helpers for one job, and what its runs queue as members come; how often it ran,
-- and how many runs stopped; the state and the trail that are kept of the last one of them; and the state of the last one that answered
pub record F4Shown : Type 0 where
  pub pairs : ℕ
  pub workers : ℕ
  pub helpers : ℕ
  pub update : Update
  pub runs : ℕ
  pub stops : ℕ
  pub state : Option Shown
  pub trail : Option KeptTrail
  pub last : Option Shown

-- what is kept is of runs of this engine, each with an End of each worker; and those that stopped are counted
pub record IsKeptByF4 (e : F4Shown) : Type 0 where
  pub some : 0 < e.workers
  pub helped : 0 < e.helpers
  pub stop : IsStop e.pairs e.workers e.update e.state e.trail
  pub counted : IsKeptWhereCounted e.stops (stopped_run e.state e.trail)
  pub by_all : IfSome e.state IsWorkedByAll
  pub last : IsLastRun e.pairs e.workers e.update e.last

-- the engine with one run more
abbrev pub f4_with_run : F4Shown → F4Shown
f4_with_run e = record e { runs = next_count e.runs }

-- one more run that stopped is counted, up to 2 ^ 64 - 1; all else is the same
pub record CountsF4Stop (old new : F4Shown) : Type 0 where
  pub pairs : new.pairs ≡ old.pairs
  pub workers : new.workers ≡ old.workers
  pub helpers : new.helpers ≡ old.helpers
  pub update : new.update ≡ old.update
  pub last : new.last ≡ old.last
  pub runs : new.runs ≡ old.runs
  pub stops : new.stops ≡ min (old.stops + 1) (2 ^ 64 - 1)
  pub later : old.stops ≤ new.stops

-- a run that answered is kept; all else is the same
pub record KeepsAnswered (old new : F4Shown) (shared : Shared) : Type 0 where
  pub same : new ≡ record old { last = new.last }
  pub last : (s : Shown) × (new.last ≡ Some s) × (s.shared ≡ shared)

-- Memory leaves the engine as it was; Pairs and Degree are counted, and the run on these is kept with the answer
abbrev pub F4Stops : (old new : F4Shown) → Shared → Stop → Type 0
F4Stops old new shared Memory = new ≡ old
F4Stops old new shared Pairs = CountsF4Stop old new × (stopped_run new.state new.trail ≡ Some (stopped_on shared Pairs))
F4Stops old new shared Degree = CountsF4Stop old new × (stopped_run new.state new.trail ≡ Some (stopped_on shared Degree))
