use Rattle.std.proofs.Common.{ap, refl, subst, sym, ◌∙◌, ◌≡◌}
use Rattle.basis_core.specs.Logs.{Base, Noted, by, log}
use Rattle.basis_core.specs.Shown.{Shown}
use Rattle.ruled_lock.specs.declared.law.View.{View}
use Rattle.ruled_lock.specs.Plays.{Holds, freed, held}
use Rattle.basis_lock.proofs.laws.free_states.Goals as goal

pub returns-clause-state : goal.returns-clause-state
returns-clause-state g c =
    let s : Shown = c.take-state.result in
    let v : View Noted Base = c.args.seat.now.place.me.0 in
    let is : c.put.new.place.me.0 ≡ freed (held v (log s)) = c.put.ensures.view ∙ ap (λ (u : View Noted Base). freed u) c.take-state.ensures.view in (
      s,
      record {
        holds = subst (Holds by v) (sym is) (c.take-state.ensures.sees.0, refl, c.take-state.ensures.sees.1, (refl, refl, refl), refl);
        of_run = c.take-state.ensures.base;
        history = ap (λ (u : View Noted Base). u.seen) is;
        replays = c.kept.ensures.replays;
        invariant = c.kept.ensures.holds;
      },
    )
