use Rattle.ext_laws.proofs.Images.{canonical_images}
use Rattle.ext_laws.proofs.transposes.images_in_kernels.Goals as goal

pub returns : goal.returns
returns c = λ n k S A maps v pos ranks canonical inside. canonical_images S pos A maps ranks canonical k v inside
