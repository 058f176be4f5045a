use Rattle.ext_modules.proofs.Resolved.{images_in}
use Rattle.ext_modules.proofs.laws.images_inside.Goals as goal

pub returns : goal.returns
returns c = λ rank k A maps v linked canonical inside. images_in c.args.ring.now rank k A maps v (c.lawful_setting.ensures rank) linked canonical inside
