use Rattle.std.proofs.Common.{ℕ, ◌≡◌}
use Rattle.std.specs.Int.{bit_at}
use Rattle.pair_queue.specs.Reaches.{FallsShort}
use Rattle.pair_queue.proofs.reach.Reach.reaching.Given as goal

-- those that are found no more fall short in a variable so far
abbrev pub invariant-loop-v : goal.invariant-loop-v
invariant-loop-v l = record {
  fewer : (r : ℕ) → bit_at l.found r ≡ 1 → bit_at l.among r ≡ 1;
  short : (r : ℕ) → bit_at l.among r ≡ 1 → bit_at l.found r ≡ 0 → FallsShort l.self.words.items l.above l.below l.index r;
}
