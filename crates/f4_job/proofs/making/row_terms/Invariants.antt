use Rattle.std.proofs.Common.{length, map, take, ◌≡◌, ◌≤◌}
use Rattle.std.specs.Vec.{vec_capacity, vec_len}
use Rattle.f4_job.specs.Made.{entry_term}
use Rattle.f4_job.proofs.making.row_terms.Given as goal

abbrev pub invariant-loop-entry : goal.invariant-loop-entry
invariant-loop-entry l = record {
  items : l.terms.items ≡ map (λ e. entry_term l.columns e) (take l.entry-index l.entries);
  len : vec_len l.terms ≡ l.entry-index;
  room : length l.entries ≤ vec_capacity l.terms;
}
