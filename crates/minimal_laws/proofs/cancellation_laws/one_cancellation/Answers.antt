use Rattle.minimal_laws.proofs.OneCancellation.{one_cancellation}
use Rattle.minimal_laws.proofs.cancellation_laws.one_cancellation.Goals as goal

pub returns : goal.returns
returns c = λ n p C E D F pos rows same h k. one_cancellation p pos C E D F h (rows, same) k
