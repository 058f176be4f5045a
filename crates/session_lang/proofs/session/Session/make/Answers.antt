use Rattle.std.proofs.Common.{[], ap, refl, subst, sym, ◌∙◌, ◌≡◌}
use Rattle.std.specs.Prelude.{is_some, string_bytes}
use Rattle.groebner_iface.specs.declared.stop.OpStop.TheVariants as causes
use Rattle.script_parse.specs.declared.stated.Statement.TheVariants as statements
use Rattle.session_values.specs.Kept.{IsSound}
use Rattle.session_values.specs.Names.{after_giving}
use Rattle.session_values.specs.Tasks.{work_of}
use Rattle.session_lang.proofs.Making.{sound_result}
use Rattle.session_lang.proofs.Performing.{nothing_behind, was_done, was_stopped}
use Rattle.groebner_iface.proofs.CallingRuns.{more_stops}
use Rattle.session_values.specs.Runs.{most_runs}
use Rattle.session_lang.proofs.session.Session.make.Goals as goal

pub operate-requires-after_bounds : goal.operate-requires-after_bounds
operate-requires-after_bounds g c κs within =
    let stated = ap (λ s. s.ring) (sym c.self.view_is) ∙ c.in-Some.is in
    (c.task-task.ensures c.in-Some.ring stated).1.0

pub returns-in-Err-clause-performed : goal.returns-in-Err-clause-performed
returns-in-Err-clause-performed g c text =
    let stated = ap (λ s. s.ring) (sym c.self.view_is) ∙ c.in-Some.is in
    let works = (c.task-task.ensures c.in-Some.ring stated).0 in
    let work = work_of c.task-task.result in
    was_stopped c.args.self.now (statements.Let c.args.name c.args.operation.now) c.args.self.now text text _ _ _ _ c.in-Err.stop refl refl
    (more_stops _ _ _ _ _ _ _ _ (λ r m l h. (c.in-Some.ring, work, works, h)) (λ t h. (c.in-Some.ring, work, works, h)) c.in-Err.stop c.in-Err.ensures.stop)

pub give-requires : goal.give-requires
give-requires g c =
    let stated = ap (λ s. s.ring) (sym c.self.view_is) ∙ c.in-Some.is in
    let ready = (c.task-task.ensures c.in-Some.ring stated).1 in
    let rank = c.rank_of_result-rank in (
      c.in-Some.ring,
      stated,
      subst (IsSound c.in-Some.ring rank.result) (sym c.of_basis.ensures)
          (sound_result c.in-Some.ring (work_of c.task-task.result) rank.result c.in-Ok.list rank.ensures ready.1 c.in-Ok.ensures.result),
    )

pub returns-in-Ok-give-clause-performed : goal.returns-in-Ok-give-clause-performed
returns-in-Ok-give-clause-performed g c text =
    let stated = ap (λ s. s.ring) (sym c.self.view_is) ∙ c.in-Some.is in
    let works = (c.task-task.ensures c.in-Some.ring stated).0 in
    let rank = c.rank_of_result-rank in
    let given =
    subst
    (λ v. c.give.new.self
    ≡ after_giving (record { name = string_bytes c.args.name; rank = rank.result; list = v.list; kept = is_some v.basis }) c.args.self.now)
    c.of_basis.ensures c.in-Ok-give.ensures.named in
    was_done c.args.self.now (statements.Let c.args.name c.args.operation.now) c.give.new.self text text _ _ _ _
    [] ((c.in-Some.ring, rank.result, c.in-Ok.list, (work_of c.task-task.result, works, rank.ensures, c.in-Ok.ensures.result), given), refl)
    (nothing_behind text) c.in-Ok.ensures.same.0 c.in-Ok.ensures.same.1

pub returns-in-Err-give-clause-performed : goal.returns-in-Err-give-clause-performed
returns-in-Err-give-clause-performed g c text =
    was_stopped c.args.self.now (statements.Let c.args.name c.args.operation.now) c.give.new.self text text _ _ _ _ causes.Memory
    c.in-Err-give.ensures.same refl c.in-Ok.ensures.same

pub returns-in-Err-clause-runs : goal.returns-in-Err-clause-runs
returns-in-Err-clause-runs g c =
    let stated = ap (λ s. s.ring) (sym c.self.view_is) ∙ c.in-Some.is in
    let work = work_of c.task-task.result in
    (most_runs c.in-Some.ring work, (c.in-Some.ring, work, (c.task-task.ensures c.in-Some.ring stated).0, refl), c.in-Err.ensures.runs)

pub returns-in-Ok-give-clause-runs : goal.returns-in-Ok-give-clause-runs
returns-in-Ok-give-clause-runs g c =
    let stated = ap (λ s. s.ring) (sym c.self.view_is) ∙ c.in-Some.is in
    let work = work_of c.task-task.result in
    (most_runs c.in-Some.ring work, (c.in-Some.ring, work, (c.task-task.ensures c.in-Some.ring stated).0, refl), c.in-Ok.ensures.runs)

pub returns-in-Err-give-clause-runs : goal.returns-in-Err-give-clause-runs
returns-in-Err-give-clause-runs g c =
    let stated = ap (λ s. s.ring) (sym c.self.view_is) ∙ c.in-Some.is in
    let work = work_of c.task-task.result in
    (most_runs c.in-Some.ring work, (c.in-Some.ring, work, (c.task-task.ensures c.in-Some.ring stated).0, refl), c.in-Ok.ensures.runs)
