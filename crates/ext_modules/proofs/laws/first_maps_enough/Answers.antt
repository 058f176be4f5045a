use Rattle.ext_modules.proofs.Resolved.{ext_taken}
use Rattle.ext_modules.proofs.laws.first_maps_enough.Goals as goal

pub returns : goal.returns
returns c = λ rank k count maps answer lt. ext_taken c.args._ring.now rank maps k count answer lt
