use Rattle.std.proofs.Common.{ap, length, ◌+◌, ◌∙◌}
use Rattle.std.proofs.lemmas.List.{length-append}
use Rattle.degree_engine.proofs.last_variable.names_with_last.Goals as goal

pub loop-name-init : goal.loop-name-init
loop-name-init c = ap length c.in_ok-more.ensures.items

pub loop-name-preserved : goal.loop-name-preserved
loop-name-preserved c = ap length c.in_ok-push.ensures.items ∙ length-append c.loop-name.more.items _ ∙ ap (λ k. k + 1) c.loop-name.invariant
