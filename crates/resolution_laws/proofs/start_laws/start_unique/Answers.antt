use Rattle.resolution_laws.proofs.OneResolution.{start_unique}
use Rattle.resolution_laws.proofs.start_laws.start_unique.Goals as goal

pub returns : goal.returns
returns c = λ n count S A maps others lawful rank h k. start_unique S lawful A rank count maps others h k
