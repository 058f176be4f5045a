use Rattle.basis_steps.proofs.Reading.{from_members, replays_ended, replays_given, replays_job, replays_stopped}
use Rattle.basis_steps.proofs.Staying.{from_more, replays_begun, replays_of}
use Rattle.basis_steps.proofs.history_laws.replayed_workers.Goals as goal

pub returns : goal.returns
returns c = record {
  job = λ n r s w h. replays_job r s w h;
  given = λ n r s w h some. replays_given r s w h some;
  ended = λ n r s w h known. replays_ended r s w h known;
  stopped = λ n r s w h k none. replays_stopped r s w h k none;
  members = λ n r begun s h. from_members r begun s h;
  replays = λ n r begun s h. replays_of r begun s h;
  begun = λ n r s h. replays_begun r s h;
  more = λ n r begun s t e h step. from_more r begun s t e h step;
}
