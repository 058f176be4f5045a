use Rattle.formal_sums.proofs.Comparing.{IsSame_compared}
use Rattle.formal_sums.proofs.sum_laws.compared_keys.Goals as goal

pub returns : goal.returns
returns c = λ n p v w h. IsSame_compared v w h
