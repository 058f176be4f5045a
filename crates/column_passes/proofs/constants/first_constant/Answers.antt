use Rattle.std.proofs.Common.{arith}
use Rattle.column_passes.proofs.Units.{first_is, none_to}
use Rattle.column_passes.proofs.constants.first_constant.Goals as goal

pub returns-in-Some-clause-some : goal.returns-in-Some-clause-some
returns-in-Some-clause-some c =
    first_is c.args.ring.now
    (c.lawful_setting.ensures 0) c.args.columns.now c.requires.vectors c.requires.graded c.loop-column.column c.index-columns-column.result
    (omega arith) c.index-columns-column.is
    c.loop-column.invariant c.in-Some.found c.in-Some.ensures

pub loop-column-preserved : goal.loop-column-preserved
loop-column-preserved c =
    none_to c.args.ring.now
    (c.lawful_setting.ensures 0) c.args.columns.now c.requires.vectors c.requires.graded c.loop-column.column c.index-columns-column.result
    (omega arith) c.index-columns-column.is
    c.loop-column.invariant c.in_default.ensures
