use Rattle.std.proofs.Common.{ap, arith, length, ◌<◌}
use Rattle.row_reduce.proofs.ReducedTails.{some_column}
use Rattle.row_reduce.proofs.tails.reduced_tails.Goals as goal

pub reduced_in_turn-requires-clause-some : goal.reduced_in_turn-requires-clause-some
reduced_in_turn-requires-clause-some c =
    let rows = c.args.rows.items in
    let several = c.combinations.ensures in
    let lt : 0 < length rows = omega (arith, several, c.if-combinations-lt2.false, ap length c.deref.ensures.value) in
    some_column c.args.modulus.now.value c.args.columns c.args.inputs rows c.requires.rows lt
