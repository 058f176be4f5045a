use Rattle.sparse_poly.proofs.Bounding.{HasDegreeWithin_power, HasDegreeWithin_product}
use Rattle.sparse_poly.proofs.power_laws.degrees.Goals as goal

pub returns : goal.returns
returns c = record {
  product = λ n p d e ws u v h g. HasDegreeWithin_product u v h g;
  power = λ n p d k ws v h. HasDegreeWithin_power v k h;
}
