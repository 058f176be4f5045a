use Rattle.minimal_laws.proofs.Searching.{cancellation_exists}
use Rattle.minimal_laws.proofs.cancellation_laws.cancellation_exists.Goals as goal

pub returns : goal.returns
returns c = λ n p C domain. cancellation_exists p domain C
