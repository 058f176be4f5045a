use Rattle.std.proofs.Common.{take, ◌≡◌}
use Rattle.ext_laws.specs.Transposes.{unit_vectors}
use Rattle.term_lists.specs.Rings.{variables}
use Rattle.term_lists.specs.Vectors.{sums_of}
use Rattle.ext_modules.proofs.units.are_units.Given as goal

abbrev pub invariant-loop-i : goal.invariant-loop-i
invariant-loop-i l = sums_of (variables l.ring) (take l.i l.list) ≡ unit_vectors l.i
