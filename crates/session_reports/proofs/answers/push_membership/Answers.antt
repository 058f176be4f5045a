use Rattle.std.proofs.Common.{ap, length, refl, ◌==◌, ◌∙◌}
use Rattle.session_values.specs.Texts.{verdict}
use Rattle.session_reports.proofs.KeptValues.{decided}
use Rattle.session_reports.proofs.Appended.{appended_err, appended_ok, appended_stops, empty_list, membership_stops}
use Rattle.session_values.specs.Answers as asked
use Rattle.session_reports.proofs.answers.push_membership.Goals as goal

pub normal_form-requires-clause-basis : goal.normal_form-requires-clause-basis
normal_form-requires-clause-basis c = (c.args.info.now.rank, c.requires.basis.0, c.requires.basis.1)

pub normal_form-requires-clause-vector : goal.normal_form-requires-clause-vector
normal_form-requires-clause-vector c = c.requires.vector

pub returns-in-Ok-clause-text : goal.returns-in-Ok-clause-text
returns-in-Ok-clause-text c =
    appended_ok c.push_verdict.result c.appended.result c.appended.ensures.ok c.appended.ensures.err _ _
    (λ e list reduced kept.
    let empty = empty_list c.in-Ok.rest c.is_empty.result (c.is_empty.ensures ∙ ap (λ l. length l == 0) c.terms.ensures) in
    let inside = c.in-Ok.ensures.member c.args.info.now.rank list reduced in
    (verdict c.is_empty.result, decided c.is_empty.result (λ t. inside.1 (empty.0 t), λ p. empty.1 (inside.0 p)), e))
    c.push_verdict.ensures.ok

pub returns-in-Ok-clause-unwritten : goal.returns-in-Ok-clause-unwritten
returns-in-Ok-clause-unwritten c =
    appended_err c.push_verdict.result c.appended.result c.appended.ensures.ok c.appended.ensures.err _ c.push_verdict.ensures.err

pub returns-in-Ok-clause-stop : goal.returns-in-Ok-clause-stop
returns-in-Ok-clause-stop c =
    appended_stops c.push_verdict.result c.appended.result c.appended.ensures.ok c.appended.ensures.err c.args.ring.now (asked.member c.args.v.now)
    c.args.basis.now

pub returns-in-Err-clause-text : goal.returns-in-Err-clause-text
returns-in-Err-clause-text c = tt

pub returns-in-Err-clause-unwritten : goal.returns-in-Err-clause-unwritten
returns-in-Err-clause-unwritten c = refl

pub returns-in-Err-clause-stop : goal.returns-in-Err-clause-stop
returns-in-Err-clause-stop c = rw c.from.ensures (membership_stops c.args.ring.now c.args.v.now c.args.basis.now c.in-Err.stop c.in-Err.ensures.stop)
