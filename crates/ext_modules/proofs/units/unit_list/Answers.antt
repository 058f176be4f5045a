use Rattle.ext_modules.proofs.UnitLists.{units_next}
use Rattle.ext_modules.proofs.units.unit_list.Goals as goal

pub loop-position-preserved : goal.loop-position-preserved
loop-position-preserved c =
    rw c.in_ok-push.ensures.items
    (units_next c.args.ring.now c.loop-position.position c.loop-position.list.items c.in_ok-unit_vector.field-0 c.loop-position.invariant c.in_ok-unit_vector.ensures.vector
    c.in_ok-unit_vector.ensures.sum)
