use Rattle.std.proofs.Common.{length, map, take, ℕ, ◌≡◌, ◌≤◌}
use Rattle.std.specs.Vec.{vec_capacity, vec_len}
use Rattle.row_matrix.proofs.numbering.numbers_by_hints.Given as goal

abbrev pub invariant-loop-one : goal.invariant-loop-one
invariant-loop-one g l = record {
  numbers : l.numbers.items ≡ map (λ (h : ℕ × ℕ). h.1) (take l.one-index l.one-items);
  count : vec_len l.numbers ≡ l.one-index;
  room : length l.one-items ≤ vec_capacity l.numbers;
}
