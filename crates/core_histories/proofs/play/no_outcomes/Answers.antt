use Rattle.std.proofs.Common.{None, ap, get_or, ◌∙◌}
use Rattle.core_histories.proofs.After.{none_more}
use Rattle.core_histories.proofs.play.no_outcomes.Goals as goal

pub loop-preserved : goal.loop-preserved
loop-preserved c w = ap (λ xs. get_or xs w None) c.in_ok-push.ensures.items ∙ none_more c.loop.waiting.items c.loop.invariant w
