use Rattle.term_lists.proofs.NormalVectors.{vector_positions}
use Rattle.term_lists.proofs.laws.positions_of_rank.Goals as goal

pub returns : goal.returns
returns c = λ ring compare rank m v w lawful h same ranked. vector_positions ring compare rank m v w lawful h same ranked
