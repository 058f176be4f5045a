use Rattle.betti_laws.proofs.ConstantParts.{constants_graded}
use Rattle.betti_laws.proofs.constant_laws.constants_stay_graded.Goals as goal

pub returns : goal.returns
returns c = λ n p ws C h. constants_graded p ws C.positions C.maps h
