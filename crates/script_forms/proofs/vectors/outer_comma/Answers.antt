use Rattle.std.proofs.Common.{sym, ◌∙◌}
use Rattle.script_forms.specs.Forms.{bracketed}
use Rattle.script_forms.proofs.States.{state_goes}
use Rattle.script_forms.proofs.vectors.outer_comma.Goals as goal

pub loop-at-preserved : goal.loop-at-preserved
loop-at-preserved c = state_goes bracketed c.args.tokens.now c.loop-at.at _ c.loop-at.inside c.in-Some.next c.loop-at-test.true c.loop-at.invariant (sym c.in-Some.is ∙ c.bracketed.ensures)
