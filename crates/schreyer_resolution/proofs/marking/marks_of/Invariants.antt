use Rattle.std.proofs.Common.{get_or, length, ℕ, ◌<◌, ◌≡◌, ◌≤◌}
use Rattle.std.specs.Vec.{vec_capacity, vec_len}
use Rattle.term_lists.specs.declared.key.Key.{Key}
use Rattle.induced_leads.specs.Reaching.{positions_of}
use Rattle.schreyer_resolution.specs.Marking.{IsTermMark}
use Rattle.schreyer_resolution.specs.declared.marking.TermMark.{TermMark}
use Rattle.schreyer_resolution.proofs.marking.marks_of.Given as goal

abbrev pub invariant-loop-term : goal.invariant-loop-term
invariant-loop-term l = record {
  count : vec_len l.marks ≡ l.term-index;
  room : length l.terms ≤ vec_capacity l.marks;
  each : (k : ℕ) (one : TermMark) → k < l.term-index → one ≡ get_or l.marks.items k one
      → (u : Key × ℕ) → u ≡ get_or l.terms k u → IsTermMark l.columns (positions_of l.index) u.0 one;
}
