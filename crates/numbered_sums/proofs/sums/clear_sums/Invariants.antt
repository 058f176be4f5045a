use Rattle.std.proofs.Common.{drop, length, ℕ, ◌%◌, ◌≡◌}
use Rattle.formal_sums.specs.FormalSums.{Each, IsSame, Key}
use Rattle.numbered_sums.specs.KeySums.{AreTouched, numbered_sum}
use Rattle.numbered_sums.proofs.sums.clear_sums.Given as goal

abbrev pub invariant-loop-number : goal.invariant-loop-number
invariant-loop-number l = record {
  count : length l.sums.items ≡ length l.fn.sums.items;
  same : (n : ℕ) (key : ℕ → Key n) → IsSame l.modulus.value (numbered_sum key 0 l.fn.sums.items) (numbered_sum key 0 l.sums.items);
  rest : AreTouched (drop l.number-index l.touched) l.sums.items;
  none : Each (λ a. a % l.modulus.value ≡ 0) l.fn.sums.items → Each (λ a. a % l.modulus.value ≡ 0) l.sums.items;
}
