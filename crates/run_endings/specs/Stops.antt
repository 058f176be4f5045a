-- What is kept of a run that stopped
use Rattle.std.specs.Prelude.{List, None, Option, Some, ⊤, ℕ, ◌<◌, ◌≡◌, ◌⊎◌}
use Rattle.term_lists.specs.Rings.{variables}
use Rattle.term_lists.specs.declared.key.Key.{Key as CodeKey}
use Rattle.term_lists.specs.declared.ring.Ring.{Ring}
use Rattle.module_vectors.specs.declared.trail.KeptTrail.{KeptTrail}
use Rattle.queue_updates.specs.declared.Update.{Update}
use Rattle.queue_updates.specs.declared.Update.TheVariants.{Gebauer, Plain}
use Rattle.basis_core.specs.Answers.{IsBeginningTrail}
use Rattle.basis_core.specs.Members.{Shared}
use Rattle.basis_core.specs.Shown.{Shown}
use Rattle.groebner_iface.specs.Runs.{StoppedRun}
use Rattle.groebner_iface.specs.declared.stop.Stop.{Stop}
use Rattle.groebner_iface.specs.declared.stop.Stop.TheVariants as answers
use Rattle.run_endings.specs.Endings.{IsBudgetStop, IsDegreeStop, IsInterreductionStop}
use Rattle.run_endings.specs.declared.stop.RunStop.{RunStop}
use Rattle.run_endings.specs.declared.stop.RunStop.TheVariants.{Memory, Pairs, Beginning, Degree}

-- the number of what is queued as members come
abbrev pub number_of_update : Update → ℕ
number_of_update Plain = 0
number_of_update Gebauer = 1

-- the state is of a run with this budget and so many workers, where this is queued as members come
pub record IsRunBy (pairs workers : ℕ) (update : Update) (s : Shown) : Type 0 where
  pub budget : s.budget ≡ pairs
  pub workers_are : s.workers ≡ workers
  pub update_is : s.update ≡ update

-- ring, rank and generators of a run
abbrev pub shared_on : Ring → ℕ → List (List (CodeKey × ℕ)) → Shared
shared_on ring rank list = record { ring = ring; rank = rank; generators = list }

-- those of a trail
abbrev pub shared_of_trail : KeptTrail → Shared
shared_of_trail t = record { ring = t.ring; rank = t.rank; generators = t.generators }

-- what is kept of the last run that stopped, with this budget and so many workers: its state where the budget stopped it; a trail of
-- its generators where the degree stopped its beginning; its state and a trail where the degree stopped it later
abbrev pub IsStop : (pairs workers : ℕ) → Update → Option Shown → Option KeptTrail → Type 0
IsStop pairs workers update None None = ⊤
IsStop pairs workers update (Some s) None = IsRunBy pairs workers update s × IsBudgetStop s
IsStop pairs workers update None (Some t) = IsBeginningTrail (variables t.ring) (shared_of_trail t) t
IsStop pairs workers update (Some s) (Some t) = IsRunBy pairs workers update s × (IsDegreeStop s t ⊎ IsInterreductionStop s t)

-- the run on these, with this answer
abbrev pub stopped_on : Shared → Stop → StoppedRun
stopped_on shared answer = record { ring = shared.ring; rank = shared.rank; list = shared.generators; answer = answer }

-- the run that was stopped, by what is kept of it
abbrev pub stopped_run : Option Shown → Option KeptTrail → Option StoppedRun
stopped_run None None = None
stopped_run (Some s) None = Some (stopped_on s.shared answers.Pairs)
stopped_run None (Some t) = Some (stopped_on (shared_of_trail t) answers.Degree)
stopped_run (Some s) (Some t) = Some (stopped_on s.shared answers.Degree)

-- a run is kept exactly where one is counted
abbrev pub IsKeptWhereCounted : (stops : ℕ) → Option StoppedRun → Type 0
IsKeptWhereCounted stops None = stops ≡ 0
IsKeptWhereCounted stops (Some run) = 0 < stops

-- what is kept is of the run on these, with this budget and so many workers
abbrev pub RunStops : (pairs workers : ℕ) → Update → Shared → RunStop → Type 0
RunStops pairs workers update shared Memory = ⊤
RunStops pairs workers update shared (Pairs s) = (s.shared ≡ shared) × IsStop pairs workers update (Some s) None
RunStops pairs workers update shared (Beginning t) = (shared_of_trail t ≡ shared) × IsStop pairs workers update None (Some t)
RunStops pairs workers update shared (Degree s t) = (s.shared ≡ shared) × IsStop pairs workers update (Some s) (Some t)

-- of the state that is kept, where one is, this holds
abbrev pub OfState : (Shown → Type 0) → RunStop → Type 0
OfState P Memory = ⊤
OfState P (Pairs s) = P s
OfState P (Beginning t) = ⊤
OfState P (Degree s t) = P s
