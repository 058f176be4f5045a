use Rattle.bases.proofs.FreeTerms.{IsCovered_normal}
use Rattle.bases.proofs.lead_laws.covering_members.Goals as goal

pub returns : goal.returns
returns c = λ n S G k lawful normal. IsCovered_normal S lawful G normal k
