use Rattle.std.proofs.Common.{subst}
use Rattle.run_endings.specs.Stops.{RunStops, shared_on}
use Rattle.plain_buchberger.specs.Engines.{PlainShown, PlainStops}
use Rattle.plain_buchberger.proofs.engine.PlainEngine.run.Goals as goal

pub keep_stop-requires-clause-stop : goal.keep_stop-requires-clause-stop
keep_stop-requires-clause-stop g c =
    let shared = shared_on c.args.ring.now c.args.rank c.args.list.now in
    (shared, subst (λ (e : PlainShown). RunStops e.pairs 1 e.update shared c.in-Err.stop) c.self.view_is c.in-Err.ensures.stop)

pub returns-in-Err-clause-stop : goal.returns-in-Err-clause-stop
returns-in-Err-clause-stop g c =
    let shared = shared_on c.args.ring.now c.args.rank c.args.list.now in
    subst (λ (e : PlainShown). PlainStops e c.keep_stop.new.self shared c.keep_stop.result) c.count_run.ensures
    (c.keep_stop.ensures.stop shared
    (subst (λ (e : PlainShown). RunStops e.pairs 1 e.update shared c.in-Err.stop) c.self.view_is c.in-Err.ensures.stop))
