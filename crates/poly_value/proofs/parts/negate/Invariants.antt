use Rattle.std.proofs.Common.{drop, take, ◌++◌, ◌-◌, ◌≡◌}
use Rattle.term_lists.specs.Multiples.{rescaled}
use Rattle.poly_value.proofs.parts.negate.Given as goal

abbrev pub invariant-loop-i : goal.invariant-loop-i
invariant-loop-i l = l.terms.items ≡ rescaled l.modulus.value (l.modulus.value - 1) (take l.i l.fn.terms.items) ++ drop l.i l.fn.terms.items
