use Rattle.std.proofs.Common.{get_or, min, true, ℕ, ◌<◌, ◌≡◌}
use Rattle.monomial_orders.proofs.sixteen.are_sixteen_apart.Given as goal

abbrev pub invariant-loop-k : goal.invariant-loop-k
invariant-loop-k l = record {
  sound : l.apart ≡ true → (x : ℕ) → x < l.k → min (get_or l.a x 0) (get_or l.b x 0) ≡ 0;
  complete : ((x : ℕ) → x < l.k → min (get_or l.a x 0) (get_or l.b x 0) ≡ 0) → l.apart ≡ true;
}
