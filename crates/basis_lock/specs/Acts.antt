-- What a worker did, and what it may do by that: the conditions of the core, read in a worker's own events
use Rattle.std.specs.Prelude.{Bool, List, [], false, map, true, ℕ, ◌++◌, ◌∷◌}
use Rattle.basis_steps.specs.Pairs.{Pair}
use Rattle.basis_steps.specs.States as plain
use Rattle.basis_core.specs.Logs.{End, Noted, Put, Stop, Take}

-- an event, without what it made
pub data Act : Type 0 where
  Took : (worker : ℕ) (job : List Pair) → Act
  HandedIn : (worker : ℕ) → Act
  Asked : (worker : ℕ) (ending : plain.Ending) → Act
  Stopped : (worker : ℕ) → Act

abbrev pub act_of : Noted → Act
act_of (Take w skipped job) = Took w job
act_of (Put w made) = HandedIn w
act_of (End w ending) = Asked w ending
act_of (Stop w) = Stopped w

abbrev pub acts_of : List Noted → List Act
acts_of es = map act_of es

-- the worker of an act
abbrev pub actor : Act → ℕ
actor (Took w job) = w
actor (HandedIn w) = w
actor (Asked w ending) = w
actor (Stopped w) = w

-- the pairs that a worker has out after its acts, where it had these before
abbrev pub held_after : List Pair → List Act → List Pair
held_after out [] = out
held_after out (Took w job ∷ acts) = held_after (out ++ job) acts
held_after out (HandedIn w ∷ acts) = held_after [] acts
held_after out (Asked w ending ∷ acts) = held_after out acts
held_after out (Stopped w ∷ acts) = held_after out acts

-- has a worker ended by its acts? (a test)
abbrev pub has_ended_by_acts : List Act → Bool
has_ended_by_acts [] = false
has_ended_by_acts (Took w job ∷ acts) = has_ended_by_acts acts
has_ended_by_acts (HandedIn w ∷ acts) = has_ended_by_acts acts
has_ended_by_acts (Asked w plain.Ended ∷ acts) = true
has_ended_by_acts (Asked w plain.MoreWork ∷ acts) = has_ended_by_acts acts
has_ended_by_acts (Stopped w ∷ acts) = has_ended_by_acts acts

-- has a worker a Take behind its last End, where it had or had not one before? (a test)
abbrev pub took_after : Bool → List Act → Bool
took_after took [] = took
took_after took (Took w job ∷ acts) = took_after true acts
took_after took (HandedIn w ∷ acts) = took_after took acts
took_after took (Asked w ending ∷ acts) = took_after false acts
took_after took (Stopped w ∷ acts) = took_after took acts

-- is there a Stop among the acts? (a test)
abbrev pub has_stop : List Act → Bool
has_stop [] = false
has_stop (Took w job ∷ acts) = has_stop acts
has_stop (HandedIn w ∷ acts) = has_stop acts
has_stop (Asked w ending ∷ acts) = has_stop acts
has_stop (Stopped w ∷ acts) = true

-- is there a Take among the acts? (a test)
abbrev pub has_take : List Act → Bool
has_take [] = false
has_take (Took w job ∷ acts) = true
has_take (HandedIn w ∷ acts) = has_take acts
has_take (Asked w ending ∷ acts) = has_take acts
has_take (Stopped w ∷ acts) = has_take acts
