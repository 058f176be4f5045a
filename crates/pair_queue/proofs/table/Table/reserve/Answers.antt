use Rattle.std.proofs.Common.{arith, length, subst, sym}
use Rattle.pair_queue.proofs.Mirroring.{still_mirrored}
use Rattle.pair_queue.specs.Tables.{AreWide}
use Rattle.pair_queue.proofs.table.Table.reserve.Goals as goal

pub invariant_of-self : goal.invariant_of-self
invariant_of-self c =
    let old = c.self.inside.rows.items in
    let new = c.widen.new.rows.items in
    still_mirrored (record { members = c.self.inside.members; rows = old }) new c.self.invariant (omega (arith, c.widen.ensures.len))
    (subst (λ k. AreWide k new) (sym c.widen.ensures.len) (c.widen.ensures.wider (length old) c.self.invariant.wide)) c.widen.ensures.flags
