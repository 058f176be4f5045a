use Rattle.std.proofs.Common.{refl}
use Rattle.basis_core.specs.Logs.{base}
use Rattle.f4_engine.proofs.Rounds.{fresh_works, worker_done, worker_goes_on}
use Rattle.f4_engine.proofs.work.work.Goals as goal

pub forever-items-requires : goal.forever-items-requires
forever-items-requires g c κs within = within

pub loop-init : goal.loop-init
loop-init g c = record {
  next = tt;
  finite = tt;
  idle = c.requires.idle;
  works = fresh_works (base c.args.lock.now.table.shared.key.value) c.args.seat.worker c.args.seat.place.me.0 c.requires.fresh c.requires.known;
  same = (refl, refl);
}

pub do_round-requires : goal.do_round-requires
do_round-requires g c = (c.type_bounds.sync-R, (c.loop.invariant.idle, (c.loop.invariant.works, c.requires.helpers)))

pub drop-iterator-requires : goal.drop-iterator-requires
drop-iterator-requires g c κs within = within

pub drop-iterator-requires-2 : goal.drop-iterator-requires-2
drop-iterator-requires-2 g c κs within = within

pub returns-then-do_round-clause-idle : goal.returns-then-do_round-clause-idle
returns-then-do_round-clause-idle g c = c.do_round.ensures.idle

pub returns-then-do_round-clause-done : goal.returns-then-do_round-clause-done
returns-then-do_round-clause-done g c =
    worker_done (base c.args.lock.now.table.shared.key.value) c.args.seat.worker c.args.seat.place.me.0 c.loop.seat.place.me.0
    c.do_round.new.seat.place.me.0 c.do_round.result c.requires.fresh c.loop.invariant.same c.do_round.ensures.ends c.if-do_round.true

pub loop-preserved : goal.loop-preserved
loop-preserved g c =
    let goes_on = worker_goes_on (base c.args.lock.now.table.shared.key.value) c.args.seat.place.me.0 c.loop.seat.place.me.0
    c.do_round.new.seat.place.me.0 c.do_round.result c.loop.invariant.same c.do_round.ensures.ends c.if-do_round.false in
    record { next = tt; finite = tt; idle = c.do_round.ensures.idle; works = goes_on.1; same = goes_on.0 }
