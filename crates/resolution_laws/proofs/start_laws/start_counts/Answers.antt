use Rattle.resolution_laws.proofs.Starts.{start_count, start_fewer}
use Rattle.resolution_laws.proofs.start_laws.start_counts.Goals as goal

pub returns : goal.returns
returns c = record {
  count = λ n count S A maps h. start_count S A count maps h;
  whole = λ n count S A maps h fewer. start_fewer S A count maps h fewer;
}
