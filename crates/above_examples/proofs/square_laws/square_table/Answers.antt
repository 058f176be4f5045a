use Rattle.std.proofs.Common.{[], ◌∙◌, ◌∷◌}
use Rattle.betti_laws.proofs.Tables.{betti}
use Rattle.above_examples.proofs.SquareBasis.{plane_lawful}
use Rattle.above_examples.proofs.SquareTable.{square_cancelled, square_counts, square_list, square_minimal}
use Rattle.above_examples.specs.Square.{square_generators}
use Rattle.above_examples.proofs.square_laws.square_table.Goals as goal

pub returns : goal.returns
returns c = record {
  cancelled = square_cancelled;
  minimal = square_minimal;
  counts = square_counts;
  each = λ C k d m q. betti 101 plane_lawful.domain (0 ∷ []) square_generators C square_list m square_minimal.0 q square_minimal.1 k d ∙ square_counts k d;
}
