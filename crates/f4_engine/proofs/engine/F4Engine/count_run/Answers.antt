use Rattle.std.proofs.Common.{ap, subst, sym, ◌≡◌}
use Rattle.f4_engine.specs.Engines.{F4Shown, f4_with_run}
use Rattle.f4_engine.proofs.engine.F4Engine.count_run.Goals as goal

pub returns : goal.returns
returns c =
    subst (λ runs. ◌≡◌ {A = F4Shown} (record {
      pairs = c.self.inside.pairs;
      workers = c.self.inside.workers;
      helpers = c.self.inside.helpers;
      update = c.self.inside.update;
      runs = runs;
      stops = c.self.inside.stops;
      state = c.self.inside.state;
      trail = c.self.inside.trail;
      last = c.self.inside.last;
    }) (f4_with_run c.args.self.now))
    (sym c.saturating_add-self-inside.ensures) (ap f4_with_run c.self.view_is)
