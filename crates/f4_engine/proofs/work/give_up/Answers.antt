use Rattle.std.proofs.Common.{subst}
use Rattle.basis_core.specs.declared.ending.Ending.{Ending}
use Rattle.ruled_lock.specs.declared.law.View.{View}
use Rattle.basis_lock.specs.Calls.{Finishes}
use Rattle.basis_core.specs.Logs.{Base, Noted, base}
use Rattle.f4_engine.proofs.Rounds.{may_finish_stopped, same_twice, stopped_done}
use Rattle.f4_engine.proofs.work.give_up.Goals as goal

pub report_stop-requires-clause-may : goal.report_stop-requires-clause-may
report_stop-requires-clause-may g c =
    let b : Base = base c.args.lock.now.table.shared.key.value in
    let v : View Noted Base = c.args.seat.now.place.me.0 in
    record { known = c.requires.may.known; first = c.requires.may.unstopped; why = c.reason_for.ensures b v.seen c.requires.may.why }

pub finish-requires-clause-may : goal.finish-requires-clause-may
finish-requires-clause-may g c =
    let b : Base = base c.args.lock.now.table.shared.key.value in
    let v : View Noted Base = c.args.seat.now.place.me.0 in
    (may_finish_stopped b v c.report_stop.new.seat.place.me.0 c.reason_for.result c.args.stop c.requires.may c.report_stop.ensures.stop).0

pub returns-clause-same : goal.returns-clause-same
returns-clause-same g c =
    let b : Base = base c.args.lock.now.table.shared.key.value in
    let u : View Noted Base = c.args.seat.now.place.me.0 in
    let v : View Noted Base = c.report_stop.new.seat.place.me.0 in
    let w : View Noted Base = c.finish.new.seat.place.me.0 in
    let all = may_finish_stopped b u v c.reason_for.result c.args.stop c.requires.may c.report_stop.ensures.stop in
    let end = subst (λ (e : Ending). Finishes b v e w) (c.finish.ensures.stopped all.1) c.finish.ensures.end in
    same_twice u v w all.4 (stopped_done b v w all.2 all.3 end).0

pub returns-clause-done : goal.returns-clause-done
returns-clause-done g c =
    let b : Base = base c.args.lock.now.table.shared.key.value in
    let u : View Noted Base = c.args.seat.now.place.me.0 in
    let v : View Noted Base = c.report_stop.new.seat.place.me.0 in
    let w : View Noted Base = c.finish.new.seat.place.me.0 in
    let all = may_finish_stopped b u v c.reason_for.result c.args.stop c.requires.may c.report_stop.ensures.stop in
    let end = subst (λ (e : Ending). Finishes b v e w) (c.finish.ensures.stopped all.1) c.finish.ensures.end in
    (stopped_done b v w all.2 all.3 end).1
