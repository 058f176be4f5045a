use Rattle.std.proofs.Common.{get_or, length, ℕ, ◌<◌, ◌≡◌, ◌+◌}
use Rattle.monomial_orders.proofs.sixteen.add_sixteen.Given as goal

abbrev pub invariant-loop-k : goal.invariant-loop-k
invariant-loop-k l = record {
  long : length l.to ≡ 16;
  places : (x : ℕ) → x < l.k → get_or l.to x 0 ≡ get_or l.a x 0 + get_or l.b x 0;
}
