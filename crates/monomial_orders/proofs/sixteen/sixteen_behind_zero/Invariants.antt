use Rattle.std.proofs.Common.{get_or, length, ℕ, ◌+◌, ◌<◌, ◌≡◌}
use Rattle.monomial_orders.proofs.sixteen.sixteen_behind_zero.Given as goal

abbrev pub invariant-loop-k : goal.invariant-loop-k
invariant-loop-k l = record {
  long : length l.to ≡ 16;
  front : get_or l.to 0 0 ≡ 0;
  places : (x : ℕ) → x < l.k → get_or l.to (x + 1) 0 ≡ get_or l.exponents x 0;
  rest : (x : ℕ) → l.k < x → get_or l.to x 0 ≡ 0;
}
