use Rattle.std.proofs.Common.{List, length, refl, subst, sym, ℕ}
use Rattle.formal_sums.specs.FormalSums.{Each}
use Rattle.term_lists.specs.Rings.{variables}
use Rattle.member_products.specs.declared.member.Reduct.{Reduct as CodeReduct}
use Rattle.basis_steps.specs.Divisions.{IsMonicMember}
use Rattle.basis_steps.specs.States.{vectors}
use Rattle.basis_core.specs.Makings.{StopsAt, StopsOne, StopsRow}
use Rattle.basis_core.specs.Members.{IsRunRow, IsMemberShown, Shared, MemberShown, members_of, setting_of}
use Rattle.basis_core.specs.Outcomes.{OutcomeShown}
use Rattle.basis_core.proofs.AfterPut.{base_more, one_stops, stops_outcome}
use Rattle.basis_core.proofs.Tracking.{rows_more}
use Rattle.basis_core.proofs.putting.make_rows.Goals as goal

pub make_members-requires-clause-over : goal.make_members-requires-clause-over
make_members-requires-clause-over c =
    let o : OutcomeShown = c.args.outcome.now in
    let shared : Shared = c.args.members.now.shared in
    let many : ℕ = length c.args.members.now.list in
    subst (Each (IsRunRow shared many)) (sym c.rows.ensures)
    (rows_more shared (length o.job.members) many o.rows c.requires.had
    (subst (λ (sh : Shared). Each (IsRunRow sh (length o.job.members)) o.rows) c.requires.shared c.kept.ensures.rows))

pub put_stop-stop-requires-clause-monic : goal.put_stop-stop-requires-clause-monic
put_stop-stop-requires-clause-monic c =
    subst (λ (sh : Shared). Each (IsMonicMember (setting_of (variables sh.ring) sh))
    (vectors (members_of (variables sh.ring) c.make_members.new.members.list))) (sym c.in-Err.ensures.shared) c.in-Err.ensures.monic

pub put_stop-stop-requires-clause-base : goal.put_stop-stop-requires-clause-base
put_stop-stop-requires-clause-base c =
    let stops = c.in-Err.ensures.stop in
    base_more c.args.members.now.list (stops.made).made c.make_members.new.members.list c.args.outcome.now.job.members
    (stops.made).same c.requires.had c.requires.base

pub put_stop-stop-requires-clause-row : goal.put_stop-stop-requires-clause-row
put_stop-stop-requires-clause-row c =
    let shared : Shared = c.args.members.now.shared in
    let o : OutcomeShown = c.args.outcome.now in
    let after : List MemberShown = c.make_members.new.members.list in
    let row : StopsRow (variables shared.ring) shared c.args.members.now.list o.rows after c.in-Err.stop =
    subst (λ (rows : List CodeReduct). StopsRow (variables shared.ring) shared c.args.members.now.list rows after c.in-Err.stop) c.rows.ensures c.in-Err.ensures.stop in
    subst (λ (sh : Shared). StopsOne (variables sh.ring) sh.ring.weights after o.rows c.in-Err.stop) (sym c.in-Err.ensures.shared)
    (one_stops (variables shared.ring) shared c.args.members.now.list o.rows after c.in-Err.stop row)

pub returns-in-Err-clause-stop : goal.returns-in-Err-clause-stop
returns-in-Err-clause-stop c =
    let shared : Shared = c.args.members.now.shared in
    let o : OutcomeShown = c.args.outcome.now in
    let after : List MemberShown = c.make_members.new.members.list in
    let row : StopsRow (variables shared.ring) shared c.args.members.now.list o.rows after c.in-Err.stop =
    subst (λ (rows : List CodeReduct). StopsRow (variables shared.ring) shared c.args.members.now.list rows after c.in-Err.stop)
    c.rows.ensures c.in-Err.ensures.stop in
    stops_outcome (variables shared.ring) shared c.args.members.now.list after o c.in-Err.stop c.put_stop-stop.result refl row
    (subst (λ (sh : Shared). Each (IsMemberShown sh) after) c.in-Err.ensures.shared c.kept-in-Err.ensures)
    (subst (λ (sh : Shared). StopsAt sh after o c.in-Err.stop c.put_stop-stop.result) c.in-Err.ensures.shared c.put_stop-stop.ensures)
