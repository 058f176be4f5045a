use Rattle.std.proofs.Common.{refl}
use Rattle.ideal_ops.proofs.multiplying.trail_of.Goals as goal

pub returns-clause-of : goal.returns-clause-of
returns-clause-of c = (c.in_ok-copied_ring.ensures.0, refl, c.new.ensures, c.new-2.ensures.items, refl, c.in_ok-copied_ring.ensures.1, refl)

pub returns-clause-step : goal.returns-clause-step
returns-clause-step c = (c.in_ok-products.ensures, refl)
