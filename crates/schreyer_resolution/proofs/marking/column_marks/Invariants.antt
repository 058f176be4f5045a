use Rattle.std.proofs.Common.{[], get_or, length, ℕ, ◌<◌, ◌≡◌, ◌≤◌}
use Rattle.std.specs.Vec.{vec_capacity, vec_len}
use Rattle.induced_leads.specs.Reaching.{positions_of}
use Rattle.schreyer_resolution.specs.Marking.{AreTermMarks}
use Rattle.schreyer_resolution.specs.declared.marking.ColumnMarks.{ColumnMarks}
use Rattle.schreyer_resolution.proofs.marking.column_marks.Given as goal

abbrev pub invariant-loop-column : goal.invariant-loop-column
invariant-loop-column l = record {
  count : vec_len l.marks ≡ l.column-index;
  room : length l.columns ≤ vec_capacity l.marks;
  each : (c : ℕ) (m : ColumnMarks) → c < l.column-index → m ≡ get_or l.marks.items c m
      → AreTermMarks l.columns (positions_of l.index) (get_or l.columns c []) m;
}
