use Rattle.std.proofs.Common.{arith, ◌<◌, length}
use Rattle.byte_ports.proofs.Newlines.{none_more}
use Rattle.byte_ports.proofs.line_reader.newline_at.Goals as goal

pub loop-at-preserved : goal.loop-at-preserved
loop-at-preserved c =
    let below : c.loop-at.at < length c.args.bytes.now = omega arith in
    none_more _ _ below c.loop-at.invariant c.if-bytes-at-eq10.false
