use Rattle.ext_modules.specs.Units.{AreUnits}
use Rattle.ext_modules.proofs.units.unit_list.Given as goal

abbrev pub invariant-loop-position : goal.invariant-loop-position
invariant-loop-position l = AreUnits l.ring l.position l.list.items
