use Rattle.std.proofs.Common.{get_or, length, ℕ, ◌≡◌, ◌≤◌}
use Rattle.std.specs.Prelude.{pos}
use Rattle.hilbert_series.proofs.leads.without_zeros.Given as goal

abbrev pub invariant-loop-long : goal.invariant-loop-long
invariant-loop-long l = record {
  within : l.long ≤ length l.list.items;
  zeros : (d : ℕ) → l.long ≤ d → get_or l.list.items d (pos 0) ≡ pos 0;
}

abbrev pub decreases-loop-long : goal.decreases-loop-long
decreases-loop-long l = l.long
