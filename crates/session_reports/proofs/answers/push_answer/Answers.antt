use Rattle.std.proofs.Common.{refl, sym}
use Rattle.session_reports.proofs.Appended.{appended_err, appended_ok, appended_stops}
use Rattle.session_reports.specs.Asking.{asked_of}
use Rattle.session_reports.proofs.answers.push_answer.Goals as goal

pub push_normal_form-requires-clause-basis : goal.push_normal_form-requires-clause-basis
push_normal_form-requires-clause-basis c = c.requires.basis

pub push_membership-requires-clause-basis : goal.push_membership-requires-clause-basis
push_membership-requires-clause-basis c = c.requires.basis

pub returns-in-NormalForm-clause-text : goal.returns-in-NormalForm-clause-text
returns-in-NormalForm-clause-text c = rw c.in-NormalForm.is c.push_normal_form.ensures.text

pub returns-in-Member-clause-text : goal.returns-in-Member-clause-text
returns-in-Member-clause-text c = rw c.in-Member.is c.push_membership.ensures.text

pub returns-in-NormalForm-clause-unwritten : goal.returns-in-NormalForm-clause-unwritten
returns-in-NormalForm-clause-unwritten c = c.push_normal_form.ensures.unwritten

pub returns-in-Member-clause-unwritten : goal.returns-in-Member-clause-unwritten
returns-in-Member-clause-unwritten c = c.push_membership.ensures.unwritten

pub returns-in-NormalForm-clause-stop : goal.returns-in-NormalForm-clause-stop
returns-in-NormalForm-clause-stop c = rw c.in-NormalForm.is c.push_normal_form.ensures.stop

pub returns-in-Member-clause-stop : goal.returns-in-Member-clause-stop
returns-in-Member-clause-stop c = rw c.in-Member.is c.push_membership.ensures.stop

pub returns-in-Basis-clause-stop : goal.returns-in-Basis-clause-stop
returns-in-Basis-clause-stop c =
    appended_stops c.push_listing.result c.appended.result c.appended.ensures.ok c.appended.ensures.err c.args.ring.now (asked_of c.args.question)
    c.args.basis.now

pub returns-in-Sizes-clause-stop : goal.returns-in-Sizes-clause-stop
returns-in-Sizes-clause-stop c =
    appended_stops c.push_sizes.result c.appended-in-Sizes.result c.appended-in-Sizes.ensures.ok c.appended-in-Sizes.ensures.err c.args.ring.now
    (asked_of c.args.question) c.args.basis.now

pub returns-in-Basis-clause-unwritten : goal.returns-in-Basis-clause-unwritten
returns-in-Basis-clause-unwritten c =
    appended_err c.push_listing.result c.appended.result c.appended.ensures.ok c.appended.ensures.err _ c.push_listing.ensures.err

pub returns-in-Sizes-clause-unwritten : goal.returns-in-Sizes-clause-unwritten
returns-in-Sizes-clause-unwritten c =
    appended_err c.push_sizes.result c.appended-in-Sizes.result c.appended-in-Sizes.ensures.ok c.appended-in-Sizes.ensures.err _ c.push_sizes.ensures.err

pub returns-in-Basis-clause-text : goal.returns-in-Basis-clause-text
returns-in-Basis-clause-text c =
    appended_ok c.push_listing.result c.appended.result c.appended.ensures.ok c.appended.ensures.err _ _
    (λ e list reduced kept. rw c.in-Basis.is (_, (c.args.basis.now, reduced, refl), rw (sym c.as_bytes-name.ensures.value) e))
    c.push_listing.ensures.ok

pub returns-in-Sizes-clause-text : goal.returns-in-Sizes-clause-text
returns-in-Sizes-clause-text c =
    appended_ok c.push_sizes.result c.appended-in-Sizes.result c.appended-in-Sizes.ensures.ok c.appended-in-Sizes.ensures.err _ _
    (λ e list reduced kept. rw c.in-Sizes.is (_, (c.args.basis.now, reduced, refl), rw (sym c.as_bytes.ensures.value, sym c.as_slice.ensures) e))
    c.push_sizes.ensures.ok
