use Rattle.betti_laws.proofs.Tables.{betti}
use Rattle.minimal_laws.proofs.CanonicalPresenting.{canonical_cancelled}
use Rattle.betti_laws.proofs.table_laws.table_of_cancellation.Goals as goal

pub returns : goal.returns
returns c = λ n S ws rows degrees A maps C D k d lawful len hom h cancelled m P.
    let q = canonical_cancelled S lawful ws rows degrees A len hom maps h D cancelled in
    betti S.modulus lawful.domain rows A C D m q.0 P q.1 k d
