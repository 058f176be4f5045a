use Rattle.reduced_bases.proofs.Comparing.{IsSameModule_equal, equal_IsSameModule}
use Rattle.reduced_bases.proofs.comparison_laws.equal_bases.Goals as goal

pub returns : goal.returns
returns c = λ n S F H G K lawful f h r s. (IsSameModule_equal S lawful F H G K f h r s, equal_IsSameModule S lawful F H G K r s)
