use Rattle.std.proofs.Common.{length, map, ℕ, ◌≡◌, ◌≤◌}
use Rattle.std.specs.List.{range_with_len}
use Rattle.std.specs.Vec.{vec_capacity, vec_len}
use Rattle.row_matrix.proofs.numbering.hinted_numbers.Given as goal

abbrev pub invariant-loop-i : goal.invariant-loop-i
invariant-loop-i g l = record {
  numbers : map (λ (h : ℕ × ℕ). h.1) l.hinted.items ≡ range_with_len 0 l.i;
  count : vec_len l.hinted ≡ l.i;
  room : length l.keys ≤ vec_capacity l.hinted;
}
