use Rattle.std.proofs.Common.{◌%◌, arith}
use Rattle.byte_ports.proofs.Risings.{le_then}
use Rattle.line_text.proofs.Sending.{zeros_cut, zeros_end, zeros_end_front, zeros_more}
use Rattle.line_text.proofs.pieces.Pieces.put_zeros.Goals as goal

pub returns-in-Err-clause-front : goal.returns-in-Err-clause-front
returns-in-Err-clause-front g c =
    zeros_cut _ _ _ _ _ c.loop.counter c.args.count c.loop.invariant.sent (omega arith) (rw c.zeros.ensures at c.in-Err.ensures.front)

pub loop-preserved : goal.loop-preserved
loop-preserved g c = record {
  sent = zeros_more _ _ _ _ _ _ c.loop.counter c.loop.invariant.sent (rw c.zeros.ensures at c.in-Ok.ensures.all);
  later = le_then _ _ _ c.loop.invariant.later c.put.ensures.cause.later;
}

pub returns-clause-all : goal.returns-clause-all
returns-clause-all g c =
    zeros_end _ _ _ _ _ _ _ c.loop.counter (c.args.count % 128) c.args.count (omega arith) c.loop.invariant.sent (rw c.zeros-2.ensures at c.put-2.ensures.all)

pub returns-clause-front : goal.returns-clause-front
returns-clause-front g c =
    zeros_end_front _ _ _ _ _ _ c.loop.counter (c.args.count % 128) c.args.count (omega arith) c.loop.invariant.sent (rw c.zeros-2.ensures at c.put-2.ensures.front)
