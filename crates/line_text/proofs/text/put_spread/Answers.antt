use Rattle.std.proofs.lemmas.List.{take_rest}
use Rattle.byte_ports.proofs.Risings.{le_then}
use Rattle.line_text.proofs.Runs.{last_spread, next_run, next_spread}
use Rattle.line_text.proofs.Sending.{underway_cut, underway_end, underway_end_front, underway_more}
use Rattle.line_text.proofs.text.put_spread.Goals as goal

pub slice_bounds-put_run-end : goal.slice_bounds-put_run-end
slice_bounds-put_run-end g c = (next_run c.args.runs.now c.loop-run.run-index c.loop-run.start _ _ c.loop-run-test.true c.loop-run.invariant.order).1

pub returns-in-Err-clause-front : goal.returns-in-Err-clause-front
returns-in-Err-clause-front g c =
    underway_cut _ _ _ _ _ _ _ _ _ c.loop-run.invariant.underway (next_spread c.args.bytes.now c.args.runs.now c.loop-run.run-index c.loop-run.start _ c.loop-run-test.true)
    c.in-Err.ensures.front

pub loop-run-preserved : goal.loop-run-preserved
loop-run-preserved g c = record {
  underway =
      underway_more _ _ _ _ _ _ _ _ _ _ c.loop-run.invariant.underway
      (next_spread c.args.bytes.now c.args.runs.now c.loop-run.run-index c.loop-run.start _ c.loop-run-test.true) c.in-Ok.ensures.all;
  order = (next_run c.args.runs.now c.loop-run.run-index c.loop-run.start _ _ c.loop-run-test.true c.loop-run.invariant.order).2;
  later = le_then _ _ _ c.loop-run.invariant.later c.put_run.ensures.cause.later;
}

pub returns-clause-all : goal.returns-clause-all
returns-clause-all g c =
    underway_end _ _ _ _ _ _ _ _ _ c.loop-run.invariant.underway
    (rw (last_spread c.args.bytes.now c.args.runs.now c.loop-run.run-index c.loop-run.start c.loop-run-test.false)
    (rw (take_rest c.args.bytes.now c.loop-run.start) at c.put.ensures.all))

pub returns-clause-front : goal.returns-clause-front
returns-clause-front g c =
    underway_end_front _ _ _ _ _ _ _ _ c.loop-run.invariant.underway
    (rw (last_spread c.args.bytes.now c.args.runs.now c.loop-run.run-index c.loop-run.start c.loop-run-test.false)
    (rw (take_rest c.args.bytes.now c.loop-run.start) at c.put.ensures.front))
