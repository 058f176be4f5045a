use Rattle.reduced_bases.proofs.Dropping.{IsCovered_through}
use Rattle.reduced_bases.proofs.interreduction_laws.covered_leads.Goals as goal

pub returns : goal.returns
returns c = λ n S G H k covers. IsCovered_through S G H k covers
