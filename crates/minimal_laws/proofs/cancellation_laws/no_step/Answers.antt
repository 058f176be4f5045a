use Rattle.minimal_laws.proofs.OneCancellation.{no_other, no_step}
use Rattle.minimal_laws.proofs.cancellation_laws.no_step.Goals as goal

pub returns : goal.returns
returns c = record {
  itself = λ n p C pos none h. no_step p pos C none h;
  alone = λ n p C D pos none h k. no_other p pos C D k none h;
}
