use Rattle.std.proofs.Common.{[], ap, length, map, subst, ◌∙◌}
use Rattle.resolution_maps.proofs.Joining.{length-zeros}
use Rattle.ext_modules.specs.Ext.{AreLinked}
use Rattle.ext_modules.proofs.Resolved.{linked_maps}
use Rattle.ext_modules.proofs.laws.resolutions_linked.Goals as goal

pub returns : goal.returns
returns c = λ rank r zeros vectors joined.
    subst (λ m. AreLinked c.args._ring.now m (map (λ m. m.columns) r.maps.items)) (ap length zeros ∙ length-zeros rank)
    (linked_maps c.args._ring.now r.positions.items [] r.maps.items vectors joined)
