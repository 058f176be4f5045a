use Rattle.std.proofs.Common.{get_or, max, true, ℕ, ◌<◌, ◌≡◌, ◌≤◌}
use Rattle.pair_updates.proofs.rows.divides_rows.Given as goal

abbrev pub invariant-loop-v : goal.invariant-loop-v
invariant-loop-v l = record {
  sound : l.divides ≡ true → (x : ℕ) → x < l.v → get_or l.k x 0 ≤ max (get_or l.a x 0) (get_or l.b x 0);
  complete : ((x : ℕ) → x < l.v → get_or l.k x 0 ≤ max (get_or l.a x 0) (get_or l.b x 0)) → l.divides ≡ true;
}
