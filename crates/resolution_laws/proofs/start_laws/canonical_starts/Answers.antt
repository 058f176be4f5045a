use Rattle.resolution_laws.proofs.Starts.{start_taken}
use Rattle.resolution_laws.proofs.start_laws.canonical_starts.Goals as goal

pub returns : goal.returns
returns c = λ n count S A maps h. start_taken S A maps count h
