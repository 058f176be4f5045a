use Rattle.term_lists.proofs.NormalVectors.{vector_unique}
use Rattle.term_lists.proofs.laws.one_list.Goals as goal

pub returns : goal.returns
returns c = λ ring compare rank v w lawful hv hw e. vector_unique ring compare rank v w lawful hv hw e
