use Rattle.std.proofs.Common.{length}
use Rattle.hilbert_series.proofs.Sieves.{IsSieving}
use Rattle.hilbert_series.proofs.parts.sieve.Given as goal

abbrev pub invariant-loop-m : goal.invariant-loop-m
invariant-loop-m l = IsSieving (length l.weights) l.weights l.list l.first.items l.other.items l.m-index
