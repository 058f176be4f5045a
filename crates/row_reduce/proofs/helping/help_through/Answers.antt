use Rattle.std.proofs.Common.{subst}
use Rattle.pivot_table.specs.Law.{told}
use Rattle.dense_reduction.specs.LostRows.{numbers}
use Rattle.row_reduce.proofs.HelpedRows.{helped_all}
use Rattle.row_reduce.specs.Passes.{AreHelped}
use Rattle.row_reduce.proofs.helping.help_through.Goals as goal

pub returns-clause-helped : goal.returns-clause-helped
returns-clause-helped c =
    let p = c.args.shared.modulus.now.value in
    let new = told c.replace_rows.new.seat in
    let left = c.in_ok-left.left.items in
    helped_all p c.args.columns c.args.shared.inputs c.args.shared.rows.now c.args.mine.now (told c.claim_rows.new.seat) new c.in_ok-lost.lost.items left
    c.in_ok-lost.ensures.claimed c.replace_rows.ensures.follows
    (subst (λ lost. AreHelped p c.args.columns c.args.shared.inputs c.args.shared.rows.now (numbers lost) new left)
    c.deref.ensures.value c.in_ok-left.ensures.helped)

pub replace_rows-requires-clause-ready : goal.replace_rows-requires-clause-ready
replace_rows-requires-clause-ready c = c.requires.ready
