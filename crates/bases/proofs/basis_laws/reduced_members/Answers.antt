use Rattle.bases.proofs.FreeTerms.{HasFreeTerms_reduced}
use Rattle.bases.proofs.basis_laws.reduced_members.Goals as goal

pub returns : goal.returns
returns c = λ n S F G H g reduced. HasFreeTerms_reduced S F G H g reduced
