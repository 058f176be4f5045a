use Rattle.std.proofs.Common.{length, ℕ, ◌-◌, ◌≤◌}
use Rattle.vector_division.specs.Divisors.{AreDivisors}
use Rattle.interreduce.specs.Members.{AreReducedTo}
use Rattle.interreduce.proofs.batches.reduced_by_earlier.Given as goal

abbrev pub invariant-loop-start : goal.invariant-loop-start
invariant-loop-start g l = record {
  within : l.start ≤ length l.kept;
  reduced : AreReducedTo (g.F.Frame.over l.frame) (g.F.Frame.compare l.frame) (g.L.Vectors.listed l.list) l.kept l.others l.width l.start l.known;
  divisors : (n : ℕ) → AreDivisors n l.known l.divisors.items;
  place : l.place ≤ length l.divisors.items;
}

abbrev pub decreases-loop-start : goal.decreases-loop-start
decreases-loop-start g l = length l.kept - l.start
