use Rattle.std.proofs.Common.{[], get_or, map, take, ◌++◌, ◌≡◌}
use Rattle.interreduce.proofs.batches.push_members.Given as goal

abbrev pub invariant-loop-index : goal.invariant-loop-index
invariant-loop-index g l = l.vectors.items ≡ l.initial.vectors.items ++ map (λ i. get_or (g.L.Vectors.listed l.list) i []) (take l.index-index l.indices)
