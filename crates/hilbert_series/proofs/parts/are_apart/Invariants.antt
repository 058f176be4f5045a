use Rattle.std.proofs.Common.{length, take}
use Rattle.hilbert_series.specs.Generators.{AreCoprimeToAll}
use Rattle.monomial_orders.specs.Kept.{monomials}
use Rattle.hilbert_series.proofs.parts.are_apart.Given as goal

abbrev pub invariant-loop-m : goal.invariant-loop-m
invariant-loop-m l = AreCoprimeToAll (length l.weights) (monomials (length l.weights) l.first) (take l.m-index l.other)
