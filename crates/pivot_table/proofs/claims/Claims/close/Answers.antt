use Rattle.pivot_table.proofs.Keeps.{tallies_as, held_or_won_as}
use Rattle.pivot_table.proofs.claims.Claims.close.Goals as goal

pub returns-clause-tallies : goal.returns-clause-tallies
returns-clause-tallies c = tallies_as _ _ c.args.seat.id c.args.seat.me.0 _ _ _ c.args.self.key c.rows_of-words.ensures c.close_with-closed.ensures.values.2

pub returns-clause-won : goal.returns-clause-won
returns-clause-won c whole = held_or_won_as _ _ c.args.seat.id c.args.seat.me.0 _ _ _ c.args.self.key c.rows_of-words.ensures c.close_with-closed.ensures.values.2 whole
