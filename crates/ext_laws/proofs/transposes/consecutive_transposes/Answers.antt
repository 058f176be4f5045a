use Rattle.ext_laws.proofs.Kernels.{image_inside}
use Rattle.ext_laws.proofs.transposes.consecutive_transposes.Goals as goal

pub returns : goal.returns
returns c = λ n p m F H v pos ranks later complex inside. image_inside pos m F H later complex v inside
