use Rattle.hilbert_laws.proofs.Orders.{series-multiplied}
use Rattle.hilbert_laws.proofs.Recurrence.{series-divided}
use Rattle.hilbert_laws.proofs.dimension_laws.division.Goals as goal

pub returns : goal.returns
returns c = record {
  multiple = series-multiplied;
  quotient = λ z j d K h. series-divided z K h j d;
}
