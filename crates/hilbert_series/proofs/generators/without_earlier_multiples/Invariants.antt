use Rattle.std.proofs.Common.{length}
use Rattle.hilbert_series.proofs.Loops.{Sifting}
use Rattle.hilbert_series.proofs.generators.without_earlier_multiples.Given as goal

abbrev pub invariant-loop-m : goal.invariant-loop-m
invariant-loop-m l = Sifting (length l.weights) l.weights l.initial.list.items l.list.items l.kept.items

abbrev pub decreases-loop-m : goal.decreases-loop-m
decreases-loop-m l = length l.list.items
