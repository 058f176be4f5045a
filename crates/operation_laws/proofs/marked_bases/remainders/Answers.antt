use Rattle.operation_laws.proofs.Dividing.{remainder_exists}
use Rattle.operation_laws.proofs.marked_bases.remainders.Goals as goal

pub returns : goal.returns
returns c = λ n S G v lawful list ranks rank. remainder_exists S lawful G list ranks v rank
