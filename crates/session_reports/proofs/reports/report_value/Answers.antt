use Rattle.std.proofs.Common.{subst}
use Rattle.std.specs.Prelude.{is_some}
use Rattle.groebner_iface.specs.Runs.{IsReducedBasisOf}
use Rattle.session_reports.proofs.KeptValues.{basis_kept}
use Rattle.session_reports.proofs.Reporting.{report_stops}
use Rattle.session_reports.proofs.Stopping.{run_fails}
use Rattle.session_values.specs.Kept.{value_of}
use Rattle.session_reports.specs.Reporting.{IsReportTrail}
use Rattle.session_reports.proofs.reports.report_value.Goals as goal

pub returns-in-Err-clause-stop : goal.returns-in-Err-clause-stop
returns-in-Err-clause-stop g c =
    rw c.from.ensures
    (run_fails _ _ _ _ (IsReportTrail c.args.ring.now (value_of c.args.info.now c.args.stored.now) c.args.report) c.args.ring.now c.args.info.now c.args.stored.now c.in-Err.stop c.in-Err.ensures.none.0 c.in-Err.ensures.stop)

pub returns-in-Ok-Done-clause-reports : goal.returns-in-Ok-Done-clause-reports
returns-in-Ok-Done-clause-reports g c =
    let kept = c.keep_basis.new.stored in
    let reduced =
    subst (λ l. IsReducedBasisOf c.args.ring.now c.args.info.now.rank l c.basis.result.now) c.in-Ok.ensures.list
    (basis_kept c.args.ring.now c.args.info.now.rank kept c.basis.result.now c.in-Ok.ensures.sound c.basis.ensures) in
    (rw c.in-Ok-Done.field-0-is at c.in-Ok-Done.ensures.reports) c.args.stored.now.list (c.requires.sound).positions reduced (is_some c.args.stored.now.basis)

pub returns-in-Ok-Refused-clause-reports : goal.returns-in-Ok-Refused-clause-reports
returns-in-Ok-Refused-clause-reports g c =
    let kept = c.keep_basis.new.stored in
    let reduced =
    subst (λ l. IsReducedBasisOf c.args.ring.now c.args.info.now.rank l c.basis.result.now) c.in-Ok.ensures.list
    (basis_kept c.args.ring.now c.args.info.now.rank kept c.basis.result.now c.in-Ok.ensures.sound c.basis.ensures) in
    (rw c.in-Ok-Refused.field-0-is at c.in-Ok-Refused.ensures.reports) c.args.stored.now.list (c.requires.sound).positions reduced (is_some c.args.stored.now.basis)

pub push_report-requires-clause-has : goal.push_report-requires-clause-has
push_report-requires-clause-has g c = c.requires.has

pub keep_basis-requires-clause-sound : goal.keep_basis-requires-clause-sound
keep_basis-requires-clause-sound g c κs within = c.requires.sound

pub basis-requires : goal.basis-requires
basis-requires g c = c.in-Ok.ensures.kept

pub push_report-requires-clause-rank : goal.push_report-requires-clause-rank
push_report-requires-clause-rank g c = c.requires.sound.ranked.1

pub push_report-requires-clause-basis : goal.push_report-requires-clause-basis
push_report-requires-clause-basis g c = (
  c.keep_basis.new.stored.list,
  c.in-Ok.ensures.sound.positions,
  basis_kept c.args.ring.now c.args.info.now.rank c.keep_basis.new.stored c.basis.result.now c.in-Ok.ensures.sound c.basis.ensures,
)

pub returns-in-Ok-Done-clause-sound : goal.returns-in-Ok-Done-clause-sound
returns-in-Ok-Done-clause-sound g c = c.in-Ok.ensures.sound

pub returns-in-Ok-Done-clause-list : goal.returns-in-Ok-Done-clause-list
returns-in-Ok-Done-clause-list g c = c.in-Ok.ensures.list

pub returns-in-Err-push_report-clause-stop : goal.returns-in-Err-push_report-clause-stop
returns-in-Err-push_report-clause-stop g c =
    let reduced =
    subst (λ l. IsReducedBasisOf c.args.ring.now c.args.info.now.rank l c.basis.result.now) c.in-Ok.ensures.list
    (basis_kept c.args.ring.now c.args.info.now.rank c.keep_basis.new.stored c.basis.result.now c.in-Ok.ensures.sound c.basis.ensures) in
    rw c.from-in-Err-push_report.ensures
    (report_stops _ _ _ _ _ c.args.ring.now (value_of c.args.info.now c.args.stored.now) c.basis.result.now c.args.report c.in-Err-push_report.stop reduced
    c.in-Err-push_report.ensures.stop c.in-Ok.ensures.same)
