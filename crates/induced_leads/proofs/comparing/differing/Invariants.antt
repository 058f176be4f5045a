use Rattle.std.proofs.Common.{slice_index, ℕ, ◌<◌, ◌≡◌, ◌≤◌}
use Rattle.induced_leads.specs.Heads.{summed}
use Rattle.induced_leads.proofs.comparing.differing.Given as goal

abbrev pub invariant-loop-n : goal.invariant-loop-n
invariant-loop-n l = record {
  inside : l.n ≤ l.m;
  same : (k : ℕ) → l.n ≤ k → k < l.m → slice_index (summed l.a l.e) k ≡ slice_index (summed l.b l.f) k;
}

abbrev pub decreases-loop-n : goal.decreases-loop-n
decreases-loop-n l = l.n
