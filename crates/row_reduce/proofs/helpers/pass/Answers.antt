use Rattle.std.proofs.Common.{IfOk, length, subst}
use Rattle.pivot_table.specs.Law.{told}
use Rattle.row_reduce.proofs.HelpedRows.{leads_within, passed}
use Rattle.row_reduce.specs.Passes.{AreHelped}
use Rattle.row_reduce.proofs.helpers.pass.Goals as goal

pub new-requires-clause-leads : goal.new-requires-clause-leads
new-requires-clause-leads g c =
    leads_within c.args.modulus.now.value (length c.args.held.now) c.args.inputs c.args.rows.now
    c.args.leads.now c.requires.ready.monic c.requires.ready.known

pub returns : goal.returns
returns g c =
    let p = c.args.modulus.now.value in
    let columns = length c.args.held.now in
    let inputs = c.args.inputs in
    let rows = c.args.rows.now in
    let pending = c.args.pending.now in
    let made = c.in-Ok.made.0.rows in
    let all = told c.help_all-left.result.1 in
    passed p columns inputs rows c.args.leads.now made.leads.items pending c.args.held.now made.held.items c.close-words.result.items
    all c.in_ok-left.left.items c.requires.ready.known c.in-Ok.ensures.rows.0 c.in-Ok.ensures.rows.1
    (subst (λ r. IfOk r (λ left. AreHelped p columns inputs rows pending all left.items)) c.in_ok-left.was c.help_all-left.ensures.helped)
    c.close-words.ensures.tallies

pub help_all-left-requires-clause-free : goal.help_all-left-requires-clause-free
help_all-left-requires-clause-free g c κs within = c.front-first.ensures (length c.args.rows.now) c.requires.pending
