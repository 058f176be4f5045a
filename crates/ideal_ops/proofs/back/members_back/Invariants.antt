use Rattle.std.proofs.Common.{List, suc, ◌++◌, ◌≡◌}
use Rattle.operation_laws.specs.Operations.{back}
use Rattle.term_lists.specs.Rings.{variables}
use Rattle.term_lists.specs.Vectors.{sums_of}
use Rattle.syzygy_engine.specs.Runs.{AreVectorsFor}
use Rattle.syzygy_engine.proofs.Standing.{Terms}
use Rattle.ideal_ops.proofs.back.members_back.Given as goal

abbrev pub invariant-loop-v : goal.invariant-loop-v
invariant-loop-v l =
    (done : List Terms) × (done ++ l.v-iterator.rest.items ≡ l.fn.basis)
    × AreVectorsFor l.ring (back (sums_of (suc (variables l.ring)) done)) l.fewer.items
