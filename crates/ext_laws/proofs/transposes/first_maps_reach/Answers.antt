use Rattle.std.proofs.Common.{arith}
use Rattle.ext_laws.proofs.Images.{columns_taken, image_taken, rank_taken}
use Rattle.ext_laws.proofs.transposes.first_maps_reach.Goals as goal

pub returns : goal.returns
returns c = record {
  rank = λ n r k count maps lt. rank_taken r maps k count (omega (arith, lt));
  columns = λ n k count maps lt. columns_taken maps k count lt;
  image = λ n r k count maps lt. image_taken r maps k count (omega (arith, lt));
}
