use Rattle.std.proofs.Common.{get_or, length, ℕ, ◌<◌, ◌≡◌}
use Rattle.std.specs.Prelude.{pos}
use Rattle.hilbert_laws.specs.Numerators.{plus}
use Rattle.hilbert_laws.specs.Shifting.{shifted}
use Rattle.hilbert_series.proofs.coefficients.plus_shifted.Given as goal

abbrev pub invariant-loop-d : goal.invariant-loop-d
invariant-loop-d l = record {
  long : length l.sums.items ≡ l.d;
  places : (x : ℕ) → x < l.d → get_or l.sums.items x (pos 0) ≡ get_or (plus l.left (shifted l.m l.right)) x (pos 0);
}
