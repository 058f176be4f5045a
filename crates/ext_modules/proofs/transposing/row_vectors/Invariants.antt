use Rattle.ext_modules.proofs.RowVectors.{AreSortedTo}
use Rattle.ext_modules.proofs.transposing.row_vectors.Given as goal

abbrev pub invariant-loop-row : goal.invariant-loop-row
invariant-loop-row l = AreSortedTo l.ring l.fn.rows.items l.vectors.items l.row-iterator.rest.items
