use Rattle.std.proofs.Common.{[], ◌∷◌}
use Rattle.minimal_betti.proofs.splitting.leave_maps.Goals as goal

pub leave_next-requires : goal.leave_next-requires
leave_next-requires c = record { leaving = (c.args.at.column ∷ [], c.in_ok-one_leaving.ensures); ordered = c.requires }

pub returns-clause-next : goal.returns-clause-next
returns-clause-next c = c.in_ok-leave_next.ensures (c.args.at.column ∷ []) c.in_ok-one_leaving.ensures

pub returns-clause-former : goal.returns-clause-former
returns-clause-former c = c.in_ok-leave_former.ensures (c.args.at.row ∷ []) c.in_ok-one_leaving-2.ensures
