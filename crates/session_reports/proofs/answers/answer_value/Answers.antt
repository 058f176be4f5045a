use Rattle.std.proofs.Common.{subst}
use Rattle.std.specs.Prelude.{is_some}
use Rattle.groebner_iface.specs.Runs.{IsReducedBasisOf}
use Rattle.session_reports.proofs.KeptValues.{basis_kept}
use Rattle.session_reports.proofs.Stopping.{run_fails}
use Rattle.session_reports.specs.Asking.{IsTrailOf, asked_of}
use Rattle.session_values.specs.Kept.{value_of}
use Rattle.session_reports.proofs.answers.answer_value.Goals as goal

pub returns-in-Err-clause-stop : goal.returns-in-Err-clause-stop
returns-in-Err-clause-stop g c =
    let asked = asked_of c.args.question in
    rw c.from.ensures
    (run_fails _ _ _ _ (IsTrailOf c.args.ring.now (value_of c.args.info.now c.args.stored.now) asked) c.args.ring.now c.args.info.now c.args.stored.now
    c.in-Err.stop c.in-Err.ensures.none.0 c.in-Err.ensures.stop)

pub push_answer-requires-clause-over : goal.push_answer-requires-clause-over
push_answer-requires-clause-over g c = c.requires.over

pub keep_basis-requires-clause-sound : goal.keep_basis-requires-clause-sound
keep_basis-requires-clause-sound g c κs within = c.requires.sound

pub basis-requires : goal.basis-requires
basis-requires g c = c.in-Ok.ensures.kept

pub push_answer-requires-clause-basis : goal.push_answer-requires-clause-basis
push_answer-requires-clause-basis g c = (
  c.keep_basis.new.stored.list,
  basis_kept c.args.ring.now c.args.info.now.rank c.keep_basis.new.stored c.basis.result.now c.in-Ok.ensures.sound
      c.basis.ensures,
)

pub returns-in-Ok-push_answer-clause-sound : goal.returns-in-Ok-push_answer-clause-sound
returns-in-Ok-push_answer-clause-sound g c = c.in-Ok.ensures.sound

pub returns-in-Ok-push_answer-clause-list : goal.returns-in-Ok-push_answer-clause-list
returns-in-Ok-push_answer-clause-list g c = c.in-Ok.ensures.list

pub returns-in-Ok-push_answer-clause-text : goal.returns-in-Ok-push_answer-clause-text
returns-in-Ok-push_answer-clause-text g c =
    let reduced =
    subst (λ l. IsReducedBasisOf c.args.ring.now c.args.info.now.rank l c.basis.result.now) c.in-Ok.ensures.list
    (basis_kept c.args.ring.now c.args.info.now.rank c.keep_basis.new.stored c.basis.result.now c.in-Ok.ensures.sound c.basis.ensures) in
    c.in-Ok-push_answer.ensures.text c.args.stored.now.list reduced (is_some c.args.stored.now.basis)
