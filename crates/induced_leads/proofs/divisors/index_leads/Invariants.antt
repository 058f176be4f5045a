use Rattle.std.proofs.Common.{[], get_or, length, ℕ, ◌<◌, ◌≡◌, ◌≤◌}
use Rattle.std.specs.Vec.{vec_capacity, vec_len}
use Rattle.module_vectors.specs.Trails.{lead_at}
use Rattle.vector_division.specs.Marks.{IsMarkOf}
use Rattle.vector_division.specs.declared.marks.Mark.{Mark}
use Rattle.induced_leads.specs.Reaching.{OccurInLead}
use Rattle.induced_leads.specs.Spans.{IsSpannedAt}
use Rattle.induced_leads.proofs.divisors.index_leads.Given as goal

abbrev pub invariant-loop-i : goal.invariant-loop-i
invariant-loop-i l = record {
  count : vec_len l.marks ≡ l.i;
  room : length l.columns ≤ vec_capacity l.marks;
  bits : vec_len l.variables ≡ l.i;
  bits_room : length l.columns ≤ vec_capacity l.variables;
  lead_bits : (j : ℕ) → j < l.i → OccurInLead (get_or l.columns j []) (get_or l.variables.items j 0);
  each : (j : ℕ) (x : Mark) → j < l.i → x ≡ get_or l.marks.items j x → IsMarkOf (get_or l.columns j []) x;
  spans : (n j : ℕ) → j < l.i → 0 < length (get_or l.columns j []) → IsSpannedAt l.spans.items (lead_at n l.columns j).0 j;
}
