use Rattle.betti_laws.proofs.ConstantParts.{constant_table}
use Rattle.betti_laws.proofs.constant_laws.table_of_constants.Goals as goal

pub returns : goal.returns
returns c = λ n p ws places A C D K E k d domain graded exact P rows same h m Q. constant_table p domain ws places A C D K E graded exact P rows same h m Q k d
