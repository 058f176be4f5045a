use Rattle.std.proofs.Common.{get_or, ℕ, ◌<◌}
use Rattle.std.specs.Prelude.{nat_abs, pos, ◌^◌}
use Rattle.hilbert_series.proofs.dimension.are_narrow.Given as goal

abbrev pub invariant-loop-d : goal.invariant-loop-d
invariant-loop-d l = (x : ℕ) → x < l.d → nat_abs (get_or l.list x (pos 0)) < 2 ^ 127
