use Rattle.std.proofs.Common.{subst}
use Rattle.run_endings.specs.Stops.{RunStops, shared_on}
use Rattle.f4_engine.specs.Engines.{F4Shown, F4Stops}
use Rattle.f4_engine.proofs.engine.F4Engine.run.Goals as goal

pub keep_stop-requires-clause-stop : goal.keep_stop-requires-clause-stop
keep_stop-requires-clause-stop g c =
    let shared = shared_on c.args.ring.now c.args.rank c.args.list.now in
    (shared, subst (λ (e : F4Shown). RunStops e.pairs e.workers e.update shared c.in-Err.stop) c.self.view_is c.in-Err.ensures.stop)

pub returns-in-Err-clause-stop : goal.returns-in-Err-clause-stop
returns-in-Err-clause-stop g c =
    let shared = shared_on c.args.ring.now c.args.rank c.args.list.now in
    subst (λ (e : F4Shown). F4Stops e c.keep_stop.new.self shared c.keep_stop.result) c.count_run.ensures
    (c.keep_stop.ensures.stop shared
    (subst (λ (e : F4Shown). RunStops e.pairs e.workers e.update shared c.in-Err.stop) c.self.view_is c.in-Err.ensures.stop))
