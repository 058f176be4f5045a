use Rattle.std.proofs.Common.{◌∙◌}
use Rattle.std.proofs.lemmas.List.{take_all}
use Rattle.run_endings.proofs.Copied.{copied_more}
use Rattle.run_endings.proofs.copies.copy_lists.Goals as goal

pub loop-list-init : goal.loop-list-init
loop-list-init c = c.new-copy.ensures.items

pub loop-list-preserved : goal.loop-list-preserved
loop-list-preserved c =
    copied_more c.args.lists.now c.loop-list.list-index c.list-item.result c.in_ok-copy_of.field-0 c.loop-list.copy.items c.push.new.self.items
    c.loop-list-test.true c.list-item.is c.in_ok-copy_of.ensures c.in_ok-push.ensures.items c.loop-list.invariant

pub returns : goal.returns
returns c = c.loop-list.invariant ∙ take_all c.loop-list.list-index c.args.lists.now c.loop-list-test.false
