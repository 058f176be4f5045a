use Rattle.std.proofs.Common.{subst, sym}
use Rattle.term_lists.specs.Rings.{variables}
use Rattle.vector_division.specs.Divisors.{AreFreeKeys}
use Rattle.vector_division.proofs.reduction.reduce_by.Goals as goal

pub reduce_knowing-requires-clause-vector : goal.reduce_knowing-requires-clause-vector
reduce_knowing-requires-clause-vector g c = c.requires.vector

pub reduce_knowing-requires-clause-list : goal.reduce_knowing-requires-clause-list
reduce_knowing-requires-clause-list g c = c.requires.list

pub reduce_knowing-requires-clause-divisors : goal.reduce_knowing-requires-clause-divisors
reduce_knowing-requires-clause-divisors g c = c.requires.divisors

pub reduce_knowing-requires-clause-free : goal.reduce_knowing-requires-clause-free
reduce_knowing-requires-clause-free g c =
    subst (AreFreeKeys (variables (g.F.Frame.over c.args.frame.now)) (g.L.Vectors.listed c.args.list.now)) (sym c.new.ensures) tt
