use Rattle.std.proofs.Common.{[], get_or, length, ℕ, ◌<◌, ◌≤◌}
use Rattle.std.specs.Prelude.{Contains}
use Rattle.std.specs.Vec.{vec_capacity, vec_len}
use Rattle.formal_sums.specs.FormalSums.{Each}
use Rattle.interreduce.specs.Leads.{HaveLeads}
use Rattle.interreduce.proofs.leads.nonzero_members.Given as goal

abbrev pub invariant-loop-i : goal.invariant-loop-i
invariant-loop-i g l = record {
  count : vec_len l.found ≤ l.i;
  room : length (g.L.Vectors.listed l.list) ≤ vec_capacity l.found;
  within : Each (λ i. i < length (g.L.Vectors.listed l.list)) l.found.items;
  leads : HaveLeads (g.L.Vectors.listed l.list) l.found.items;
  all : (k : ℕ) → k < l.i → 0 < length (get_or (g.L.Vectors.listed l.list) k []) → Contains l.found.items k;
}
