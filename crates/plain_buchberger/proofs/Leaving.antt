-- A run that was closed has no stop by the budget
use Rattle.std.proofs.Common.{None, Option, Some, ap, sym, ◌∙◌, ◌≡◌}
use Rattle.basis_core.specs.declared.stop.StopReason.{StopReason}
use Rattle.basis_core.specs.declared.stop.StopReason.TheVariants as reasons
use Rattle.basis_core.specs.Members.{Shared}
use Rattle.basis_core.specs.Shown.{Shown}
use Rattle.run_endings.specs.declared.stop.RunStop.{RunStop}
use Rattle.run_endings.specs.declared.stop.RunStop.TheVariants.{Memory, Pairs, Beginning, Degree}
use Rattle.run_endings.specs.Endings.{IsClosed}
use Rattle.run_endings.specs.Stops.{OfState, RunStops}
use Rattle.plain_buchberger.specs.Runs.{StopLeaves}

pub closed_leaves : (s : Shown) (stop : RunStop) → IsClosed s → OfState (λ t. t ≡ s) stop → RunStops s.budget s.workers s.update s.shared stop → StopLeaves stop
closed_leaves s Memory closed e h = tt
closed_leaves s (Pairs t) closed e (over, (by, budget)) =
    absurd (let both : ◌≡◌ {A = Option StopReason} None (Some reasons.Pairs) = sym (ap (λ (x : Shown). x.stop) e ∙ closed.stop) ∙ budget.stop in cc)
closed_leaves s (Beginning t) closed e h = tt
closed_leaves s (Degree t trail) closed e h = tt
