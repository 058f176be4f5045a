use Rattle.change_laws.proofs.NewBases.{change_reduced}
use Rattle.change_laws.proofs.basis_laws.changed_basis.Goals as goal

pub returns : goal.returns
returns c = λ n S F N G lawful rank of_rank change. change_reduced S lawful rank F of_rank N G change
