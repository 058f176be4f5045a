use Rattle.change_laws.proofs.Powers.{is_power}
use Rattle.change_laws.proofs.standard_laws.variable_powers.Goals as goal

pub returns : goal.returns
returns c = λ n ws xs i long pos lt. is_power n ws xs i long pos lt
