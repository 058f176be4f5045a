use Rattle.reduced_bases.proofs.Dropping.{IsGroebnerBasis_dropped}
use Rattle.reduced_bases.proofs.interreduction_laws.dropped_members.Goals as goal

pub returns : goal.returns
returns c = λ n S F G H basis inside covers. IsGroebnerBasis_dropped S F G H basis inside covers
