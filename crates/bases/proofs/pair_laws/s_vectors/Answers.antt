use Rattle.bases.proofs.SVectors.{IsMember_s_vector, s_vector_below}
use Rattle.bases.proofs.pair_laws.s_vectors.Goals as goal

pub returns : goal.returns
returns c = record {
  member = λ n S F G i j lawful a b. IsMember_s_vector S lawful F G i j a b;
  below = λ n S G i j k lawful list hi hj e lead. s_vector_below S lawful G list i j hi hj e k lead;
}
