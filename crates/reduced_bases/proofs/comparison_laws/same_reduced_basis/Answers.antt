use Rattle.reduced_bases.proofs.Comparing.{IsReducedBasis_same}
use Rattle.reduced_bases.proofs.comparison_laws.same_reduced_basis.Goals as goal

pub returns : goal.returns
returns c = λ n S F H G lawful same r. IsReducedBasis_same S lawful F H G same r
