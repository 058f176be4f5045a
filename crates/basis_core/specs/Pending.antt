-- Outcomes that wait to be handed in
use Rattle.std.specs.Prelude.{List, false, get_or, true, ◌++◌, ◌<◌, ◌≡◌}
use Rattle.basis_core.specs.Answers.{IsJobOut}
use Rattle.basis_core.specs.Members.{MemberShown}
use Rattle.basis_core.specs.Outcomes.{OutcomeShown}
use Rattle.basis_core.specs.Shown.{Shown}

-- the outcome may be handed in: its job is out with its worker, who has not ended
pub record MayPutOutcome (s : Shown) (o : OutcomeShown) : Type 0 where
  pub known : o.job.worker < s.workers
  pub works : get_or s.ended o.job.worker true ≡ false
  pub out : IsJobOut s o

-- members are added behind those that there were
abbrev pub HaveGrown : List MemberShown → List MemberShown → Type 0
HaveGrown old new = (made : List MemberShown) × (new ≡ old ++ made)
