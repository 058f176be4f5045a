use Rattle.std.proofs.Common.{refl, ◌+◌}
use Rattle.sparse_poly.proofs.TopDegrees.{IsLead_product, PowersFit_of}
use Rattle.sparse_poly.proofs.power_laws.top_degrees.Goals as goal

pub returns : goal.returns
returns c = record {
  product = λ n S u v a b lawful hu hv lu lv. IsLead_product S lawful u v a b hu hv lu lv;
  powers = λ n p i j ws v domain h fits. PowersFit_of ws domain v i j (i + j) h refl fits;
}
