use Rattle.std.proofs.Common.{ap, subst, sym, ◌≡◌}
use Rattle.plain_buchberger.specs.Engines.{PlainShown, plain_with_run}
use Rattle.plain_buchberger.proofs.engine.PlainEngine.count_run.Goals as goal

pub returns : goal.returns
returns c =
    subst (λ runs. ◌≡◌ {A = PlainShown} (record {
      pairs = c.self.inside.pairs;
      update = c.self.inside.update;
      runs = runs;
      stops = c.self.inside.stops;
      state = c.self.inside.state;
      trail = c.self.inside.trail;
    }) (plain_with_run c.args.self.now))
    (sym c.saturating_add-self-inside.ensures) (ap plain_with_run c.self.view_is)
