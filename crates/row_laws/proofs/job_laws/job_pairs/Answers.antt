use Rattle.row_laws.proofs.Jobs.{HasLcmRepresentation_added, HasLcmRepresentation_divided, job_representation}
use Rattle.row_laws.proofs.job_laws.job_pairs.Goals as goal

pub returns : goal.returns
returns c = record {
  pairs = λ n S G M E N i j lawful list monic products form new hi hj e rows. job_representation S lawful G M E N list monic products form new i j hi hj e rows;
  added = λ n S G A N i j lawful hi hj rep. HasLcmRepresentation_added S lawful G A N i j hi hj rep;
  divided = λ n S G N H i j lawful hi hj ei ej a b rep. HasLcmRepresentation_divided S lawful G N H i j hi hj ei ej a b rep;
}
