use Rattle.operation_laws.proofs.OneMark.{mark_exact}
use Rattle.operation_laws.proofs.marked_bases.marks_of_some.Goals as goal

pub returns : goal.returns
returns c = λ n p q X Y w pos x y. mark_exact pos q X Y x y w
