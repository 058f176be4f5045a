use Rattle.std.proofs.Common.{length, ℕ, ◌<◌, ◌≤◌}
use Rattle.hilbert_laws.specs.Numerators.{leads_at}
use Rattle.hilbert_series.specs.Leads.{keys_of}
use Rattle.hilbert_series.proofs.leads.first_over.Given as goal

abbrev pub invariant-loop-i : goal.invariant-loop-i
invariant-loop-i l = (n j : ℕ) → j < l.i → length (leads_at j (keys_of n l.leads)) ≤ 120
