use Rattle.std.proofs.Common.{[], refl, ◌++◌, ◌∷◌}
use Rattle.poly_text.specs.Texts.{names_of, vector_text}
use Rattle.session_reports.proofs.Appended.{appended_err, appended_ok, appended_stops, normal_form_stops}
use Rattle.session_reports.proofs.Variables.{of_variables}
use Rattle.session_values.specs.Answers as asked
use Rattle.session_reports.proofs.answers.push_normal_form.Goals as goal

pub normal_form-requires-clause-basis : goal.normal_form-requires-clause-basis
normal_form-requires-clause-basis c = (c.args.info.now.rank, c.requires.basis.0, c.requires.basis.1)

pub normal_form-requires-clause-vector : goal.normal_form-requires-clause-vector
normal_form-requires-clause-vector c = c.requires.vector

pub push_line-requires : goal.push_line-requires
push_line-requires c =
    let normal = c.in-Ok.ensures.normal c.args.info.now.rank c.requires.basis.0 c.requires.basis.1 in
    of_variables c.args.ring.now c.in-Ok.rest normal.vector

pub returns-in-Ok-clause-text : goal.returns-in-Ok-clause-text
returns-in-Ok-clause-text c =
    appended_ok c.push_line.result c.appended.result c.appended.ensures.ok c.appended.ensures.err _ _
    (λ e list reduced kept.
    let rest = c.in-Ok.rest in
    (vector_text (names_of c.args.ring.now) c.args.info.now.rank rest ++ 10 ∷ [], (rest, c.in-Ok.ensures.normal c.args.info.now.rank list reduced, refl), e))
    c.push_line.ensures.ok

pub returns-in-Ok-clause-unwritten : goal.returns-in-Ok-clause-unwritten
returns-in-Ok-clause-unwritten c = appended_err c.push_line.result c.appended.result c.appended.ensures.ok c.appended.ensures.err _ c.push_line.ensures.err

pub returns-in-Ok-clause-stop : goal.returns-in-Ok-clause-stop
returns-in-Ok-clause-stop c =
    appended_stops c.push_line.result c.appended.result c.appended.ensures.ok c.appended.ensures.err c.args.ring.now (asked.normal_form c.args.v.now)
    c.args.basis.now

pub returns-in-Err-clause-text : goal.returns-in-Err-clause-text
returns-in-Err-clause-text c = tt

pub returns-in-Err-clause-unwritten : goal.returns-in-Err-clause-unwritten
returns-in-Err-clause-unwritten c = refl

pub returns-in-Err-clause-stop : goal.returns-in-Err-clause-stop
returns-in-Err-clause-stop c = rw c.from.ensures (normal_form_stops c.args.ring.now c.args.v.now c.args.basis.now c.in-Err.stop c.in-Err.ensures.stop)
