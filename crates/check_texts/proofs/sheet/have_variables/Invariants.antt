use Rattle.std.proofs.Common.{take}
use Rattle.formal_sums.specs.FormalSums.{Each}
use Rattle.term_lists.specs.Vectors.{HasVariables}
use Rattle.check_texts.proofs.sheet.have_variables.Given as goal

abbrev pub invariant-loop-term : goal.invariant-loop-term
invariant-loop-term l = Each (HasVariables l.count) (take l.term-index l.terms)
