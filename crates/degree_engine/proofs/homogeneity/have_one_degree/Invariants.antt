use Rattle.std.proofs.Common.{take}
use Rattle.formal_sums.specs.FormalSums.{Each}
use Rattle.degree_engine.specs.LastVariables.{HasOneDegree}
use Rattle.degree_engine.proofs.homogeneity.have_one_degree.Given as goal

abbrev pub invariant-loop-v : goal.invariant-loop-v
invariant-loop-v l = Each HasOneDegree (take l.v-index l.v-items)
