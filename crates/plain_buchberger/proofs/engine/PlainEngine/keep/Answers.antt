use Rattle.std.proofs.Common.{arith, subst, subst₂, sym, ◌<◌}
use Rattle.run_endings.specs.Stops.{IsKeptWhereCounted, IsStop}
use Rattle.plain_buchberger.specs.Engines.{PlainShown, IsKeptByPlain}
use Rattle.plain_buchberger.proofs.engine.PlainEngine.keep.Goals as goal

pub invariant_of-self : goal.invariant_of-self
invariant_of-self c =
    let more : 0 < c.saturating_add-self-inside.result = omega (arith, c.saturating_add-self-inside.ensures) in
    subst₂ (λ state trail. IsKeptByPlain (record {
      pairs = c.self.inside.pairs;
      update = c.self.inside.update;
      runs = c.self.inside.runs;
      stops = c.saturating_add-self-inside.result;
      state = state;
      trail = trail;
    }))
    (sym c.replace.ensures.after) (sym c.replace-2.ensures.after) (record {
      stop = subst (λ (e : PlainShown). IsStop e.pairs 1 e.update c.args.state c.args.trail) (sym c.self.view_is) c.requires.stop;
      counted = subst (IsKeptWhereCounted c.saturating_add-self-inside.result) (sym c.requires.some.1) more;
      left = c.requires.left;
    })
