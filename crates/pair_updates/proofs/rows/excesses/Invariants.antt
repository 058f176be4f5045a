use Rattle.std.proofs.Common.{get_or, length, min, ℕ, ◌-◌, ◌<◌, ◌≡◌}
use Rattle.pair_updates.proofs.rows.excesses.Given as goal

abbrev pub invariant-loop-v : goal.invariant-loop-v
invariant-loop-v l = record {
  long : length l.to ≡ 16;
  places : (x : ℕ) → x < l.v → get_or l.to x 0 ≡ min (get_or l.a x 0 - get_or l.b x 0) 4;
}
