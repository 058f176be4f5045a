use Rattle.std.proofs.Common.{sym, ◌∙◌}
use Rattle.script_forms.specs.Forms.{ends_atom}
use Rattle.script_forms.proofs.Expressed.{place_found}
use Rattle.script_forms.proofs.States.{state_goes}
use Rattle.script_forms.proofs.expressions.word_place.Goals as goal

pub returns-in-None-clause-found : goal.returns-in-None-clause-found
returns-in-None-clause-found c = (c.loop-at-test.true, place_found c.args.tokens.now c.loop-at.at _ c.loop-at.atom c.loop-at-test.true c.loop-at.invariant (sym c.ended.ensures ∙ c.in-None.is))

pub loop-at-preserved : goal.loop-at-preserved
loop-at-preserved c = state_goes ends_atom c.args.tokens.now c.loop-at.at _ c.loop-at.atom c.in-Some.next c.loop-at-test.true c.loop-at.invariant (sym c.in-Some.is ∙ c.ended.ensures)
