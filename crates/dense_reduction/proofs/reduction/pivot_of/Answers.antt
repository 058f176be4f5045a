use Rattle.std.proofs.Common.{length}
use Rattle.pivot_table.specs.Law.{told}
use Rattle.dense_reduction.proofs.Steps.{pivot_looked}
use Rattle.dense_reduction.specs.Rests.{rows_left}
use Rattle.dense_reduction.proofs.reduction.pivot_of.Goals as goal

pub returns-in-Some-clause-pivot : goal.returns-in-Some-clause-pivot
returns-in-Some-clause-pivot c =
    let k = c.args.shared.claims.now.rows in
    pivot_looked c.args.shared.modulus.now.value (length c.args.own.now.pivots.items) c.args.shared.inputs c.args.c c.in-Some.row c.args.shared.rows.now (rows_left c.args.own.now.left.items) k.leads.items k.held.items (told c.args.seat.now) (told c.look.new.seat)
    c.requires.ready (rw c.from.ensures at rw c.in-Some.is at c.look.ensures.names) (rw c.from.ensures at rw c.in-Some.is at c.look.ensures.told)

pub own_pivot-requires-clause-at : goal.own_pivot-requires-clause-at
own_pivot-requires-clause-at c = c.requires.at

pub own_pivot-requires-clause-own : goal.own_pivot-requires-clause-own
own_pivot-requires-clause-own c = c.requires.own
