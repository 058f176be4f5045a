use Rattle.reduced_bases.proofs.Dropping.{IsGroebnerBasis_dropped_one}
use Rattle.reduced_bases.proofs.interreduction_laws.dropped_member.Goals as goal

pub returns : goal.returns
returns c = λ n S F G H g basis covered. IsGroebnerBasis_dropped_one S F G H g basis covered
