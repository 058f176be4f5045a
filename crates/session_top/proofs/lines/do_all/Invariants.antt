use Rattle.std.proofs.Common.{◌≡◌, ◌≤◌, true, vec_capacity}
use Rattle.session_top.specs.declared.TheConstants.{SCRIPT_LIMIT}
use Rattle.session_top.specs.Limits.{limits_in}
use Rattle.session_top.proofs.Going.{Going}
use Rattle.session_top.proofs.lines.do_all.Given as goal

abbrev pub invariant-loop-next : goal.invariant-loop-next
invariant-loop-next g l = record {
  going : Going (g.S.Source.left l.initial.source) (g.S.Source.left l.source) (g.K.Sink.taken l.initial.sink) (g.K.Sink.taken l.sink) l.lines l.number l.desk.session;
  is_open : l.lines.is_open ≡ true;
  capacity : SCRIPT_LIMIT ≤ vec_capacity l.line;
  limits : limits_in l.desk.engine.direct ≡ limits_in l.initial.desk.engine.direct;
  read_later : g.S.Source.faults l.initial.source ≤ g.S.Source.faults l.source;
  write_later : g.K.Sink.faults l.initial.sink ≤ g.K.Sink.faults l.sink;
}

abbrev pub decreases-loop-next : goal.decreases-loop-next
decreases-loop-next g l = l.lines.room
