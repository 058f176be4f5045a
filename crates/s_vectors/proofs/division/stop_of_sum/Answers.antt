use Rattle.std.proofs.Common.{subst}
use Rattle.basis_core.specs.Rows.{vectors_in}
use Rattle.s_vectors.proofs.Stopping.{great_chain}
use Rattle.s_vectors.specs.Parts.{PartsStop}
use Rattle.s_vectors.proofs.division.stop_of_sum.Goals as goal

pub returns-in-Ok : goal.returns-in-Ok
returns-in-Ok c = λ n ws ms k h s.
    great_chain n ws ms k c.args.parts.items c.in-Degree.number c.in-Degree.last c.in-Ok.products.items h
    (subst (PartsStop (vectors_in ms) c.args.parts.items) c.in-Degree.is s) c.in-Ok.ensures
