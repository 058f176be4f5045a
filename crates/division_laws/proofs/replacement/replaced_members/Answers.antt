use Rattle.division_laws.proofs.Replacing.{HasLcmRepresentation_replaced, HasStandardRepresentation_itself, HasStandardRepresentation_more, IsSumBelow_replaced}
use Rattle.division_laws.proofs.replacement.replaced_members.Goals as goal

pub returns : goal.returns
returns c = record {
  sums = λ n S G H k v lawful by b. IsSumBelow_replaced S lawful G H k v by b;
  pairs = λ n S G H i j lawful by ei ej rep. HasLcmRepresentation_replaced S lawful G H i j by ei ej rep;
  itself = λ n S G i h. HasStandardRepresentation_itself S G i h;
  more = λ n S G N k v r. HasStandardRepresentation_more S G N k v r;
}
