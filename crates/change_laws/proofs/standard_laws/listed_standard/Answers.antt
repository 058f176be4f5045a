use Rattle.change_laws.proofs.Listing.{all_listed}
use Rattle.change_laws.proofs.standard_laws.listed_standard.Goals as goal

pub returns : goal.returns
returns c = λ n L ms one more. all_listed L ms one more
