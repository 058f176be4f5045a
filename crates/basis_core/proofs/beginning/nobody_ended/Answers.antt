use Rattle.std.proofs.Common.{Bool, List, [], ap, arith, false, sym, ◌++◌, ◌∙◌, ◌∷◌, ◌≡◌}
use Rattle.basis_steps.specs.Steps.{none_ended}
use Rattle.basis_core.proofs.Starting.{none_ended_more}
use Rattle.basis_core.proofs.beginning.nobody_ended.Goals as goal

pub loop-init : goal.loop-init
loop-init c = c.new-ended.ensures.items

pub loop-preserved : goal.loop-preserved
loop-preserved c = c.in_ok-push.ensures.items ∙ ap (λ (l : List Bool). l ++ false ∷ []) c.loop.invariant ∙ sym (none_ended_more c.loop.counter)

pub returns : goal.returns
returns c =
    let e : c.loop.counter ≡ c.args.workers = omega arith in
    c.loop.invariant ∙ ap none_ended e
