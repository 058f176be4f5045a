use Rattle.std.proofs.Common.{ℕ, drop, ◌+◌}
use Rattle.poly_text.specs.Writing.{IsStretch}
use Rattle.poly_text.proofs.vector.run_length.Given as goal

abbrev pub invariant-loop-i : goal.invariant-loop-i
invariant-loop-i l = (m : ℕ) → IsStretch l.position (drop l.i l.terms) m → IsStretch l.position l.terms (l.i + m)
