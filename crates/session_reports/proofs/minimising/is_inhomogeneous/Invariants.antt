use Rattle.std.proofs.Common.{take}
use Rattle.formal_sums.specs.FormalSums.{Each}
use Rattle.session_reports.specs.Minimising.{HasTwoDegrees}
use Rattle.session_reports.proofs.minimising.is_inhomogeneous.Given as goal

abbrev pub invariant-loop-v : goal.invariant-loop-v
invariant-loop-v l = Each (λ v. HasTwoDegrees v → ⊥) (take l.v-index l.list)
