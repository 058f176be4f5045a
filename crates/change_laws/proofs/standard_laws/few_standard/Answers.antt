use Rattle.change_laws.proofs.Listing.{few_listed}
use Rattle.change_laws.proofs.standard_laws.few_standard.Goals as goal

pub returns : goal.returns
returns c = λ n L ms h le many. few_listed L ms h le many
