use Rattle.std.proofs.Common.{arith, subst, take, ◌∙◌}
use Rattle.std.proofs.lemmas.List.{take_all}
use Rattle.column_passes.specs.Constants.{IsLeastUnit}
use Rattle.column_passes.proofs.Units.{unit_more}
use Rattle.column_passes.proofs.constants.least_unit.Goals as goal

pub loop-term-preserved : goal.loop-term-preserved
loop-term-preserved c =
    unit_more c.terms-term-items.result.now c.loop-term.term-index c.term-item.result c.lower-least.result (omega arith) c.term-item.is
    (c.lower-least.ensures (take c.loop-term.term-index c.terms-term-items.result.now) c.loop-term.invariant)

pub returns : goal.returns
returns c =
    subst (λ v. IsLeastUnit v c.loop-term.least)
    (take_all c.loop-term.term-index c.terms-term-items.result.now (omega arith) ∙ c.terms-term-items.ensures) c.loop-term.invariant
