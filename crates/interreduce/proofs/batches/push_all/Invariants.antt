use Rattle.std.proofs.Common.{length, ℕ, ◌++◌, ◌≡◌, ◌≤◌}
use Rattle.vector_division.specs.Divisors.{AreDivisors}
use Rattle.interreduce.proofs.batches.push_all.Given as goal

-- the known vectors are those of the start and those so far
abbrev pub invariant-loop-v : goal.invariant-loop-v
invariant-loop-v l = record {
  known : l.known ++ l.v-iterator.rest.items ≡ l.fn.known ++ l.fn.vectors.items;
  place : l.place ≤ length l.divisors.items;
  divisors : (n : ℕ) → AreDivisors n l.known l.divisors.items;
}
