use Rattle.std.proofs.Common.{length, take, ℕ, ◌<◌, ◌≡◌}
use Rattle.dense_reduction.specs.Dense.{AddsMultiple}
use Rattle.dense_reduction.specs.Eights.{AreDense, lane}
use Rattle.dense_reduction.proofs.eights.add_to_one.Given as goal

abbrev pub invariant-loop-entry : goal.invariant-loop-entry
invariant-loop-entry l = record {
  count : length l.numbers ≡ length l.fn.numbers;
  adds : AddsMultiple l.modulus.value l.factor (take l.entry-index l.entries) (lane l.row l.fn.numbers) (lane l.row l.numbers);
  others : (j : ℕ) → j < 8 → (j ≡ l.row → ⊥) → lane j l.numbers ≡ lane j l.fn.numbers;
  small : AreDense l.limit l.numbers;
}
