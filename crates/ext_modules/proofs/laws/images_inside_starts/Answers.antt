use Rattle.ext_modules.proofs.Resolved.{images_in_start}
use Rattle.ext_modules.proofs.laws.images_inside_starts.Goals as goal

pub returns : goal.returns
returns c = λ rank k count A maps v linked start inside. images_in_start c.args.ring.now rank k count A maps v (c.lawful_setting.ensures rank) linked start inside
