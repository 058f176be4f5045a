use Rattle.std.proofs.Common.{drop, take, ◌++◌, ◌≡◌}
use Rattle.term_lists.specs.Multiples.{rescaled}
use Rattle.term_lists.proofs.terms.rescale_terms.Given as goal

abbrev pub invariant-loop-i : goal.invariant-loop-i
invariant-loop-i l = l.terms.items ≡ rescaled l.modulus.value l.c (take l.i l.fn.terms.items) ++ drop l.i l.fn.terms.items
