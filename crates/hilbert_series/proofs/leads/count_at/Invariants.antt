use Rattle.std.proofs.Common.{length, take, ℕ, ◌≡◌, ◌≤◌}
use Rattle.hilbert_laws.specs.Numerators.{leads_at}
use Rattle.hilbert_series.specs.Leads.{keys_of}
use Rattle.hilbert_series.proofs.leads.count_at.Given as goal

abbrev pub invariant-loop-lead : goal.invariant-loop-lead
invariant-loop-lead l = record {
  few : l.count ≤ l.lead-index;
  counted : (n : ℕ) → l.count ≡ length (leads_at l.i (keys_of n (take l.lead-index l.leads)));
}
