use Rattle.std.proofs.Common.{get_or, length, ℕ, ◌*◌, ◌+◌, ◌<◌, ◌≡◌, ◌≤◌}
use Rattle.residues.specs.Residues.{IsCongruent}
use Rattle.order_change.proofs.sums.Sums.add_multiple.Given as goal

abbrev pub invariant-loop-k : goal.invariant-loop-k
invariant-loop-k l = record {
  long : length l.self ≡ length l.initial.self;
  numbers : (j : ℕ) → get_or l.self j 0 < l.modulus.value * l.modulus.value;
  sums : (j : ℕ) → j < l.k → IsCongruent l.modulus.value (get_or l.self j 0) (get_or l.initial.self j 0 + l.c * get_or l.form j 0);
  rest : (j : ℕ) → l.k ≤ j → get_or l.self j 0 ≡ get_or l.initial.self j 0;
}
