use Rattle.std.proofs.Common.{refl, subst, ◌∙◌}
use Rattle.basis_core.specs.Members.{Shared}
use Rattle.run_endings.specs.Stops.{RunStops}
use Rattle.plain_buchberger.proofs.Leaving.{closed_leaves}
use Rattle.plain_buchberger.proofs.runs.run.Goals as goal

pub returns-in-Err-close-clause-stop : goal.returns-in-Err-close-clause-stop
returns-in-Err-close-clause-stop g c =
    let same = c.in-Ok-look_at_pairs.ensures.run in
    let run = c.in-Ok.ensures.run in
    subst (λ (sh : Shared). RunStops c.args.pairs 1 c.args.update sh c.in-Err-close.stop) (same.shared ∙ run.over)
    (c.in-Err-close.ensures.stop c.args.pairs 1 c.args.update (record { budget = same.budget ∙ run.most; workers_are = same.workers ∙ run.number; update_is = same.update ∙ run.queues }))

pub returns-in-Err-close-clause-left : goal.returns-in-Err-close-clause-left
returns-in-Err-close-clause-left g c =
    let s = c.look_at_pairs.new.state in
    closed_leaves s c.in-Err-close.stop c.in-Ok-look_at_pairs.ensures.closed c.in-Err-close.ensures.stopped
    (c.in-Err-close.ensures.stop s.budget s.workers s.update (record { budget = refl; workers_are = refl; update_is = refl }))

pub returns-in-Err-clause-stop : goal.returns-in-Err-clause-stop
returns-in-Err-clause-stop g c =
    let same = c.in-Err.ensures.run in
    let run = c.in-Ok.ensures.run in
    subst (λ (sh : Shared). RunStops c.args.pairs 1 c.args.update sh c.stop_of_rounds.result) (same.shared ∙ run.over)
    (c.stop_of_rounds.ensures.stop c.args.pairs 1 c.args.update (record { budget = same.budget ∙ run.most; workers_are = same.workers ∙ run.number; update_is = same.update ∙ run.queues }))

pub begin-requires-clause-vectors : goal.begin-requires-clause-vectors
begin-requires-clause-vectors g c = c.requires.vectors

pub begin-requires-clause-positions : goal.begin-requires-clause-positions
begin-requires-clause-positions g c = c.requires.positions
