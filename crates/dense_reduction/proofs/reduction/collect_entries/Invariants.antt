use Rattle.std.proofs.Common.{take, ℕ}
use Rattle.monomials.specs.Exponents.{unit}
use Rattle.formal_sums.specs.FormalSums.{IsSame, Key, scale}
use Rattle.row_matrix.specs.Rows.{AreEntries, row_sum}
use Rattle.dense_reduction.specs.Dense.{dense_sum}
use Rattle.dense_reduction.proofs.reduction.collect_entries.Given as goal

abbrev pub invariant-loop-i : goal.invariant-loop-i
invariant-loop-i l = record {
  entries : AreEntries l.modulus.value 0 l.i l.entries.items;
  sum : (n : ℕ) (key : ℕ → Key n) → IsSame l.modulus.value (row_sum key l.entries.items) (scale l.factor (unit n) (dense_sum key 0 (take l.i l.numbers)));
}
