-- What more a run with one worker leaves at a stop
use Rattle.std.specs.Prelude.{None, Option, Some, ⊤}
use Rattle.module_vectors.specs.declared.trail.KeptTrail.{KeptTrail}
use Rattle.basis_core.specs.Shown.{Shown}
use Rattle.run_endings.specs.declared.stop.RunStop.{RunStop}
use Rattle.run_endings.specs.declared.stop.RunStop.TheVariants.{Memory, Pairs, Beginning, Degree}
use Rattle.plain_buchberger.specs.Rounds.{LeavesPairs}

-- a stop by the budget leaves a pair
abbrev pub StopLeaves : RunStop → Type 0
StopLeaves Memory = ⊤
StopLeaves (Pairs s) = LeavesPairs s
StopLeaves (Beginning t) = ⊤
StopLeaves (Degree s t) = ⊤

-- the same of what is kept
abbrev pub KeptLeaves : Option Shown → Option KeptTrail → Type 0
KeptLeaves None t = ⊤
KeptLeaves (Some s) None = LeavesPairs s
KeptLeaves (Some s) (Some t) = ⊤
