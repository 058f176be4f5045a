use Rattle.std.proofs.Common.{[], ap₂, sym, ◌++◌, ◌∙◌, ◌∷◌}
use Rattle.term_lists.proofs.Scaling.{take_item}
use Rattle.schreyer_resolution.proofs.trails.copy_maps.Goals as goal

pub loop-columns-init : goal.loop-columns-init
loop-columns-init c = c.in_ok-copy.ensures.items

pub loop-columns-preserved : goal.loop-columns-preserved
loop-columns-preserved c =
    c.in_ok-push.ensures.items ∙ ap₂ (λ xs x. xs ++ x ∷ []) c.loop-columns.invariant c.in_ok-copy_of.ensures
    ∙ sym (take_item c.args.maps.now c.loop-columns.columns-index c.columns-item.result c.loop-columns-test.true c.columns-item.is)
