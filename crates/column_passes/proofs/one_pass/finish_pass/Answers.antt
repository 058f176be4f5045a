use Rattle.std.proofs.Common.{subst}
use Rattle.column_passes.specs.Passing.{LeaveNumbered, indices_in_turn}
use Rattle.column_passes.specs.Placing.{ArePlacesAfter}
use Rattle.column_passes.proofs.one_pass.finish_pass.Goals as goal

pub finish-requires-clause-leaving : goal.finish-requires-clause-leaving
finish-requires-clause-leaving c = (c.in_ok-rows.ensures.rows, c.in_ok-rows.ensures.turn)

pub finish-requires-clause-steps : goal.finish-requires-clause-steps
finish-requires-clause-steps c = c.requires.steps

pub finish-requires-clause-numbered : goal.finish-requires-clause-numbered
finish-requires-clause-numbered c = c.requires.numbered

pub finish-requires-clause-met : goal.finish-requires-clause-met
finish-requires-clause-met c = c.requires.met

pub returns-in-Ok-clause-rows : goal.returns-in-Ok-clause-rows
returns-in-Ok-clause-rows c = subst (λ z. LeaveNumbered z c.in_ok-rows.rows) c.deref.ensures.value c.in_ok-rows.ensures

pub returns-in-Ok-clause-indices : goal.returns-in-Ok-clause-indices
returns-in-Ok-clause-indices c =
    subst (λ z. ArePlacesAfter (indices_in_turn 0 z) c.in_ok-indices.indices) c.deref-2.ensures.value c.in_ok-indices.ensures

pub returns-in-Ok-clause-finished : goal.returns-in-Ok-clause-finished
returns-in-Ok-clause-finished c = c.in-Ok.ensures
