use Rattle.std.proofs.Common.{get_or, true, ℕ, ◌<◌, ◌≡◌, ◌≤◌}
use Rattle.monomial_orders.proofs.sixteen.divides_sixteen.Given as goal

abbrev pub invariant-loop-k : goal.invariant-loop-k
invariant-loop-k l = record {
  sound : l.divides ≡ true → (x : ℕ) → x < l.k → get_or l.a x 0 ≤ get_or l.b x 0;
  complete : ((x : ℕ) → x < l.k → get_or l.a x 0 ≤ get_or l.b x 0) → l.divides ≡ true;
}
