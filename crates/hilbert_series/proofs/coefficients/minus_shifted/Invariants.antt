use Rattle.std.proofs.Common.{get_or, length, ℕ, ◌<◌, ◌≡◌}
use Rattle.std.specs.Prelude.{pos}
use Rattle.hilbert_laws.specs.Shifting.{minus, shifted}
use Rattle.hilbert_series.proofs.coefficients.minus_shifted.Given as goal

abbrev pub invariant-loop-d : goal.invariant-loop-d
invariant-loop-d l = record {
  long : length l.differences.items ≡ l.d;
  places : (x : ℕ) → x < l.d → get_or l.differences.items x (pos 0) ≡ get_or (minus l.left (shifted l.m l.right)) x (pos 0);
}
