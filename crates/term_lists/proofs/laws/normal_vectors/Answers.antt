use Rattle.term_lists.proofs.NormalVectors.{vector_lead, vector_normal}
use Rattle.term_lists.proofs.laws.normal_vectors.Goals as goal

pub returns : goal.returns
returns c = record {
  normal = λ ring compare rank v h. vector_normal ring compare rank v h;
  lead = λ ring compare rank t v lawful h. vector_lead ring compare rank t v lawful h;
}
