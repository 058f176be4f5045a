use Rattle.betti_laws.proofs.ConstantParts.{cancelled_constants}
use Rattle.betti_laws.proofs.constant_laws.constants_cancel.Goals as goal

pub returns : goal.returns
returns c = λ n p ws C D domain graded h. cancelled_constants p domain ws C D h graded
