use Rattle.std.proofs.Common.{length, ◌++◌}
use Rattle.formal_sums.specs.FormalSums.{IsSame, Key}
use Rattle.term_lists.specs.Rings.{variables}
use Rattle.term_lists.specs.Vectors.{AreVectorsOver, IsVectorOver, sum_of}
use Rattle.vector_division.specs.Runs.{AreBelow, IsOver, total}
use Rattle.vector_division.proofs.buckets.Buckets.into_run.Given as goal

abbrev pub invariant-loop-run : goal.invariant-loop-run
invariant-loop-run g l =
    let ring = g.F.Frame.over l.frame in
    let n = variables ring in
    record {
      runs : AreVectorsOver ring (g.F.Frame.compare l.frame) l.runs.items;
      vector : IsVectorOver ring (g.F.Frame.compare l.frame) l.sum;
      sum : IsSame ring.modulus.value (total n l.runs.items ++ sum_of n l.sum) (total n l.fn.self);
      below : (k : Key n) → AreBelow n (g.F.Frame.compare l.frame n) k l.fn.self
          → AreBelow n (g.F.Frame.compare l.frame n) k l.runs.items × IsOver (g.F.Frame.compare l.frame n) k (sum_of n l.sum);
    }

abbrev pub decreases-loop-run : goal.decreases-loop-run
decreases-loop-run g l = length l.runs.items
