use Rattle.std.proofs.Common.{subst, sym}
use Rattle.std.specs.Prelude.{IfErr, IfOk}
use Rattle.session_reports.proofs.Reporting.{betti_stops, minimal_stops, regularity_stops, resolving_stops}
use Rattle.session_reports.specs.Reporting.{HasReport, ReportStops, Reports}
use Rattle.session_reports.proofs.reports.push_report.Goals as goal

pub push_numbers-requires-clause-basis : goal.push_numbers-requires-clause-basis
push_numbers-requires-clause-basis c = (c.requires.basis.0, c.requires.basis.2)

pub returns-in_ok-push_numbers-in-Numbers-clause-reports : goal.returns-in_ok-push_numbers-in-Numbers-clause-reports
returns-in_ok-push_numbers-in-Numbers-clause-reports c =
    subst
    (λ r. Reports c.args.ring.now c.args.info.now c.args.basis.now r c.args.out.now c.push_numbers.new.out c.in_ok-push_numbers-in-Numbers.field-0)
    (sym c.in-Numbers.is) c.in_ok-push_numbers-in-Numbers.ensures.reports

pub push_reordered-requires-clause-ideal : goal.push_reordered-requires-clause-ideal
push_reordered-requires-clause-ideal c = subst (HasReport c.args.info.now.rank) c.in-InOrder.is c.requires.has

pub returns-in_ok-push_reordered-in-InOrder-clause-reports : goal.returns-in_ok-push_reordered-in-InOrder-clause-reports
returns-in_ok-push_reordered-in-InOrder-clause-reports c =
    subst
    (λ r. Reports c.args.ring.now c.args.info.now c.args.basis.now r c.args.out.now c.push_reordered.new.out
    c.in_ok-push_reordered-in-InOrder.field-0)
    (sym c.in-InOrder.is) c.in_ok-push_reordered-in-InOrder.ensures.reports

pub returns-in-Resolution-clause-reports : goal.returns-in-Resolution-clause-reports
returns-in-Resolution-clause-reports c =
    subst (λ r. IfOk c.push_resolution.result (Reports c.args.ring.now c.args.info.now c.args.basis.now r c.args.out.now c.push_resolution.new.out))
    (sym c.in-Resolution.is) c.push_resolution.ensures.reports

pub returns-in-Resolution-clause-stop : goal.returns-in-Resolution-clause-stop
returns-in-Resolution-clause-stop c =
    subst (λ r. IfErr c.push_resolution.result (ReportStops c.args.ring.now c.args.info.now.rank c.args.basis.now r)) (sym c.in-Resolution.is)
    (resolving_stops c.args.ring.now c.args.info.now.rank c.args.basis.now c.push_resolution.result c.push_resolution.ensures.stop)

pub returns-in-Minimal-clause-reports : goal.returns-in-Minimal-clause-reports
returns-in-Minimal-clause-reports c =
    subst (λ r. IfOk c.push_minimal.result (Reports c.args.ring.now c.args.info.now c.args.basis.now r c.args.out.now c.push_minimal.new.out))
    (sym c.in-Minimal.is) c.push_minimal.ensures.reports

pub returns-in-Minimal-clause-stop : goal.returns-in-Minimal-clause-stop
returns-in-Minimal-clause-stop c =
    subst (λ r. IfErr c.push_minimal.result (ReportStops c.args.ring.now c.args.info.now.rank c.args.basis.now r)) (sym c.in-Minimal.is)
    (minimal_stops c.args.ring.now c.args.info.now.rank c.args.basis.now c.push_minimal.result c.push_minimal.ensures.stop)

pub returns-in-Betti-clause-reports : goal.returns-in-Betti-clause-reports
returns-in-Betti-clause-reports c =
    subst (λ r. IfOk c.push_betti.result (Reports c.args.ring.now c.args.info.now c.args.basis.now r c.args.out.now c.push_betti.new.out))
    (sym c.in-Betti.is) c.push_betti.ensures.reports

pub returns-in-Betti-clause-stop : goal.returns-in-Betti-clause-stop
returns-in-Betti-clause-stop c =
    subst (λ r. IfErr c.push_betti.result (ReportStops c.args.ring.now c.args.info.now.rank c.args.basis.now r)) (sym c.in-Betti.is)
    (betti_stops c.args.ring.now c.args.info.now.rank c.args.basis.now c.push_betti.result c.push_betti.ensures.stop)

pub returns-in-Regularity-clause-reports : goal.returns-in-Regularity-clause-reports
returns-in-Regularity-clause-reports c =
    subst (λ r. IfOk c.push_regularity.result (Reports c.args.ring.now c.args.info.now c.args.basis.now r c.args.out.now c.push_regularity.new.out))
    (sym c.in-Regularity.is) c.push_regularity.ensures.reports

pub returns-in-Regularity-clause-stop : goal.returns-in-Regularity-clause-stop
returns-in-Regularity-clause-stop c =
    subst (λ r. IfErr c.push_regularity.result (ReportStops c.args.ring.now c.args.info.now.rank c.args.basis.now r)) (sym c.in-Regularity.is)
    (regularity_stops c.args.ring.now c.args.info.now.rank c.args.basis.now c.push_regularity.result c.push_regularity.ensures.stop)

pub push_numbers-requires-clause-rank : goal.push_numbers-requires-clause-rank
push_numbers-requires-clause-rank c = c.requires.rank

pub push_reordered-requires-clause-basis : goal.push_reordered-requires-clause-basis
push_reordered-requires-clause-basis c = c.requires.basis

pub push_resolution-requires : goal.push_resolution-requires
push_resolution-requires c = c.requires.basis

pub push_minimal-requires : goal.push_minimal-requires
push_minimal-requires c = c.requires.basis

pub push_betti-requires : goal.push_betti-requires
push_betti-requires c = c.requires.basis

pub push_regularity-requires : goal.push_regularity-requires
push_regularity-requires c = c.requires.basis
