use Rattle.std.proofs.Common.{ap, append-nil, sym, ◌++◌, ◌∙◌}
use Rattle.std.proofs.lemmas.List.{take_all}
use Rattle.ideal_ops.proofs.Shared.{one_more}
use Rattle.ideal_ops.proofs.adding.joined.Goals as goal

pub loop-v-init : goal.loop-v-init
loop-v-init c = c.in_ok-list.ensures ∙ sym (append-nil c.args.left.now)

pub loop-v-preserved : goal.loop-v-preserved
loop-v-preserved c =
    one_more c.args.left.now c.as_slice-v-items.result.now c.loop-v.list c.push.new.self c.loop-v.v-index c.v-item.result c.in_ok-try_copy.field-0
    c.loop-v-test.true c.v-item.is c.in_ok-push.ensures.ok c.in_ok-try_copy.ensures c.loop-v.invariant

pub returns : goal.returns
returns c =
    c.loop-v.invariant ∙ ap (λ l. c.args.left.now ++ l) (take_all c.loop-v.v-index c.as_slice-v-items.result.now c.loop-v-test.false ∙
    c.as_slice-v-items.ensures)
