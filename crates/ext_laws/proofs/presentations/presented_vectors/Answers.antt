use Rattle.formal_sums.proofs.Combining.{IsMember_same}
use Rattle.formal_sums.proofs.Sameness.{IsSame_sym}
use Rattle.formal_sums.specs.Combinations.{combination}
use Rattle.ext_laws.proofs.presentations.presented_vectors.Goals as goal

pub returns : goal.returns
returns c = λ n p Z I Q a v relations rank sums. (
  λ q. IsMember_same I (combination Z a) v sums ((relations a).0 q).1,
  λ i. (relations a).1 (rank, IsMember_same I v (combination Z a) (IsSame_sym sums) i),
)
