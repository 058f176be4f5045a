use Rattle.std.proofs.Common.{get_or, ℕ, ◌<◌, ◌≡◌}
use Rattle.induced_leads.specs.Heads.{summed}
use Rattle.induced_leads.proofs.comparing.compare_first.Given as goal

abbrev pub invariant-loop-k : goal.invariant-loop-k
invariant-loop-k l = (x : ℕ) → x < l.k → get_or (summed l.a l.e) x 0 ≡ get_or (summed l.b l.f) x 0
