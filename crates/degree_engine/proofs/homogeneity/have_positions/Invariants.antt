use Rattle.std.proofs.Common.{take}
use Rattle.formal_sums.specs.FormalSums.{Each}
use Rattle.term_lists.specs.Vectors.{HasPositions}
use Rattle.degree_engine.proofs.homogeneity.have_positions.Given as goal

abbrev pub invariant-loop-v : goal.invariant-loop-v
invariant-loop-v l = Each (HasPositions l.rank) (take l.v-index l.v-items)
