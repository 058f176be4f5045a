use Rattle.std.proofs.Common.{length, take, ◌<◌}
use Rattle.formal_sums.specs.FormalSums.{Each}
use Rattle.degree_engine.proofs.one_terms.have_one_term.Given as goal

abbrev pub invariant-loop-v : goal.invariant-loop-v
invariant-loop-v l = Each (λ v. length v < 2) (take l.v-index l.v-items)
