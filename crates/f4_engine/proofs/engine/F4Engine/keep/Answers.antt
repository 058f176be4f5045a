use Rattle.std.proofs.Common.{arith, subst, subst₂, sym, ◌<◌}
use Rattle.run_endings.specs.Stops.{IsKeptWhereCounted, IsStop}
use Rattle.f4_engine.specs.Engines.{F4Shown, IsKeptByF4}
use Rattle.f4_engine.proofs.engine.F4Engine.keep.Goals as goal

pub invariant_of-self : goal.invariant_of-self
invariant_of-self c =
    let more : 0 < c.saturating_add-self-inside.result = omega (arith, c.saturating_add-self-inside.ensures) in
    subst₂ (λ state trail. IsKeptByF4 (record {
      pairs = c.self.inside.pairs;
      workers = c.self.inside.workers;
      helpers = c.self.inside.helpers;
      update = c.self.inside.update;
      runs = c.self.inside.runs;
      stops = c.saturating_add-self-inside.result;
      state = state;
      trail = trail;
      last = c.self.inside.last;
    }))
    (sym c.replace.ensures.after) (sym c.replace-2.ensures.after) (record {
      some = c.self.invariant.some;
      helped = c.self.invariant.helped;
      stop = subst (λ (e : F4Shown). IsStop e.pairs e.workers e.update c.args.state c.args.trail) (sym c.self.view_is) c.requires.stop;
      counted = subst (IsKeptWhereCounted c.saturating_add-self-inside.result) (sym c.requires.some.1) more;
      by_all = c.requires.by_all;
      last = c.self.invariant.last;
    })
