use Rattle.std.proofs.Common.{List, reverse, subst, subst₂, sym, ℕ}
use Rattle.term_lists.specs.Rings.{ring_comparison, variables}
use Rattle.term_lists.specs.Vectors.{AreVectorsOver, sums_of}
use Rattle.column_passes.specs.Passing.{AreGradedColumns, IsPassed}
use Rattle.minimal_betti.proofs.Splittings.{graded_columns, ordered_here}
use Rattle.minimal_betti.proofs.cancelling.cancelled_map.Goals as goal

pub pass-requires-clause-vectors : goal.pass-requires-clause-vectors
pass-requires-clause-vectors c =
    let ring = c.args.ring.now in
    subst (AreVectorsOver ring (ring_comparison ring)) (sym c.as_slice.ensures)
    (ordered_here ring c.args.done.now.items c.args.current (reverse c.args.rest.now.items) c.requires.underway.ordered)

pub pass-requires-clause-graded : goal.pass-requires-clause-graded
pass-requires-clause-graded c =
    let ring = c.args.ring.now in
    let g = graded_columns ring c.args.positions.now.items c.args.done.now.items c.args.current (reverse c.args.rest.now.items) c.requires.underway.graded in
    subst₂ (λ (ds : List ℕ) F. AreGradedColumns ring ds (sums_of (variables ring) F)) (sym c.deref.ensures.value) (sym c.as_slice.ensures) g

pub leave_passed-requires-clause-passed : goal.leave_passed-requires-clause-passed
leave_passed-requires-clause-passed c = subst (λ F. IsPassed c.args.ring.now F c.in-Ok.passed) c.as_slice.ensures c.in-Ok.ensures

pub leave_passed-requires-clause-underway : goal.leave_passed-requires-clause-underway
leave_passed-requires-clause-underway c = c.requires.underway
