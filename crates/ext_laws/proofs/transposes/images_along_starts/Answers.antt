use Rattle.ext_laws.proofs.Images.{start_images}
use Rattle.ext_laws.proofs.transposes.images_along_starts.Goals as goal

pub returns : goal.returns
returns c = λ n k count S A maps v pos ranks start inside. start_images S pos A count maps ranks start k v inside
