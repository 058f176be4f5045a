use Rattle.std.specs.Prelude.{IfOk}
use Rattle.std.proofs.Common.{inl, subst, ◌∙◌, ◌≡◌}
use Rattle.basis_core.specs.Members.{Shared}
use Rattle.basis_core.specs.Shown.{Shown}
use Rattle.groebner_iface.specs.Runs.{IsReducedBasisOf}
use Rattle.run_endings.specs.Stops.{IsRunBy, shared_on}
use Rattle.f4_engine.specs.Runs.{IsFinished, IsWorkedByAll}
use Rattle.f4_engine.proofs.Begun.{closing_stops, left_by, state_back, state_stopped}
use Rattle.f4_engine.proofs.runs.run.Goals as goal

pub begin-requires-clause-workers : goal.begin-requires-clause-workers
begin-requires-clause-workers g c = c.requires.workers

pub begin-requires-clause-vectors : goal.begin-requires-clause-vectors
begin-requires-clause-vectors g c = c.requires.vectors

pub begin-requires-clause-positions : goal.begin-requires-clause-positions
begin-requires-clause-positions g c = c.requires.positions

pub let_work-requires : goal.let_work-requires
let_work-requires g c = (c.type_bounds.sync-R, (c.in-Ok.ensures.new, c.requires.helpers))

pub close-requires : goal.close-requires
close-requires g c = (c.type_bounds.sync-R, record { stop = c.in-Finished.ensures; ended = c.in-Some.ensures.ended })

pub returns-in-Finished : goal.returns-in-Finished
returns-in-Finished g c =
    let shared = shared_on c.args.ring.now c.args.rank c.args.list.now in
    let s = c.in-Some.state in
    let left = c.in-Some.ensures in
    let over = left.shared ∙ c.in-Ok.ensures.run.over in
    let by = left_by shared c.args.pairs c.args.workers c.args.update c.in-Ok.state s c.in-Ok.ensures.run left.by_these in
    record {
      basis = subst (λ (sh : Shared). IfOk c.close.result (λ t. IsReducedBasisOf sh.ring sh.rank sh.generators t.0)) over c.close.ensures.basis;
      shared = state_back (λ (t : Shown). t.shared ≡ shared) s c.close.result c.close.ensures.state over;
      finished =
          state_back (λ (t : Shown). IsRunBy c.args.pairs c.args.workers c.args.update t × IsWorkedByAll t × IsFinished t) s c.close.result c.close.ensures.state
          (by, left.by_all, record { closed = record { stop = c.in-Finished.ensures; ended = left.ended }; took = left.took c.in-Finished.ensures });
      stop = closing_stops c.args.pairs c.args.workers c.args.update shared s c.close.result over by c.close.ensures.stop;
      stopped = state_stopped IsWorkedByAll s c.close.result c.close.ensures.stopped left.by_all;
    }

pub returns-in-Pairs-clause-stop : goal.returns-in-Pairs-clause-stop
returns-in-Pairs-clause-stop g c =
    let shared = shared_on c.args.ring.now c.args.rank c.args.list.now in
    let left = c.in-Some.ensures in (
      left.shared ∙ c.in-Ok.ensures.run.over,
      (left_by shared c.args.pairs c.args.workers c.args.update c.in-Ok.state c.in-Some.state c.in-Ok.ensures.run left.by_these, c.in-Pairs.ensures),
    )

pub returns-in-Pairs-clause-stopped : goal.returns-in-Pairs-clause-stopped
returns-in-Pairs-clause-stopped g c = c.in-Some.ensures.by_all

pub returns-in-Degree-clause-stop : goal.returns-in-Degree-clause-stop
returns-in-Degree-clause-stop g c =
    let shared = shared_on c.args.ring.now c.args.rank c.args.list.now in
    let left = c.in-Some.ensures in (
      left.shared ∙ c.in-Ok.ensures.run.over,
      (left_by shared c.args.pairs c.args.workers c.args.update c.in-Ok.state c.in-Some.state c.in-Ok.ensures.run left.by_these, inl c.in-Degree.ensures),
    )

pub returns-in-Degree-clause-stopped : goal.returns-in-Degree-clause-stopped
returns-in-Degree-clause-stopped g c = c.in-Some.ensures.by_all
