use Rattle.std.proofs.Common.{◌<◌, length, subst, sym}
use Rattle.poly_value.proofs.Places.{place_below}
use Rattle.poly_value.proofs.stack.put_name.Goals as goal

pub variable_part-requires : goal.variable_part-requires
variable_part-requires g c = subst (λ r. c.in-Some.i < length r.vars) c.ring.ensures (place_below c.ring.result.now.vars c.text.result.now c.in-Some.i (sym c.in-Some.ensures))
