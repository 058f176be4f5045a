use Rattle.std.proofs.Common.{get_or, length, ℕ, ◌+◌, ◌<◌, ◌≡◌}
use Rattle.induced_leads.proofs.head.add_exponents.Given as goal

abbrev pub invariant-loop-k : goal.invariant-loop-k
invariant-loop-k l = record {
  count : length l.exponents.items ≡ l.k;
  sums : (j : ℕ) → j < l.k → get_or l.exponents.items j 0 ≡ get_or l.a j 0 + get_or l.e j 0;
  low : (j : ℕ) → get_or l.exponents.items j 0 < 281474976710656;
}
