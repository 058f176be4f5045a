use Rattle.std.proofs.Common.{get_or, length, ℕ, ◌<◌, ◌≡◌, ◌≤◌}
use Rattle.pair_updates.proofs.rows.row_of.Given as goal

abbrev pub invariant-loop-k : goal.invariant-loop-k
invariant-loop-k l = record {
  long : length l.places ≡ 16;
  places : (x : ℕ) → x < l.k → get_or l.places x 0 ≡ get_or l.exponents x 0;
  rest : (x : ℕ) → l.k ≤ x → get_or l.places x 0 ≡ 0;
}
