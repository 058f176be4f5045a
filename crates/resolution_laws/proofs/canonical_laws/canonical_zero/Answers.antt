use Rattle.resolution_laws.proofs.OneResolution.{canonical_zero}
use Rattle.resolution_laws.proofs.canonical_laws.canonical_zero.Goals as goal

pub returns : goal.returns
returns c = record {
  only = λ n S A maps lawful z h. canonical_zero S lawful A z maps h;
  itself = λ n S A. (λ h. h, λ h. h);
}
