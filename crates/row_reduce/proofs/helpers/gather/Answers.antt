use Rattle.std.proofs.Common.{IfOk, subst, sym, ◌++◌}
use Rattle.row_reduce.proofs.HelpedRows.{helped_both}
use Rattle.row_reduce.specs.Passes.{AreHelped}
use Rattle.row_reduce.proofs.helpers.gather.Goals as goal

pub returns : goal.returns
returns c p columns inputs rows mine more known new ours theirs =
    subst (AreHelped p columns inputs rows (mine ++ more) (known ++ new)) (sym c.in_ok-append.ensures.items)
    (helped_both p columns inputs rows mine more known new c.in_ok-left.left.items c.in_ok-more.more.items
    (subst (λ r. IfOk r (λ left. AreHelped p columns inputs rows mine known left.items)) c.in_ok-left.was ours)
    (subst (λ r. IfOk r (λ left. AreHelped p columns inputs rows more new left.items)) c.in_ok-more.was theirs))
