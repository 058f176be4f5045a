use Rattle.basis_core.specs.Logs.{base}
use Rattle.f4_engine.proofs.Rounds.{ends_done, ends_with_more, may_finish}
use Rattle.f4_engine.proofs.work.ask_to_end.Goals as goal

pub finish-requires-clause-may : goal.finish-requires-clause-may
finish-requires-clause-may g c = may_finish (base c.args.lock.now.table.shared.key.value) c.args.seat.now.place.me.0 c.requires.none

pub returns-in-Ended-clause-ends : goal.returns-in-Ended-clause-ends
returns-in-Ended-clause-ends g c =
    ends_done (base c.args.lock.now.table.shared.key.value) c.args.seat.now.place.me.0 c.finish.new.seat.place.me.0 c.requires.none c.in-Ended.ensures.end

pub returns-in-MoreWork-clause-ends : goal.returns-in-MoreWork-clause-ends
returns-in-MoreWork-clause-ends g c =
    ends_with_more (base c.args.lock.now.table.shared.key.value) c.args.seat.now.place.me.0 c.finish.new.seat.place.me.0 c.requires.none c.in-MoreWork.ensures.end
