use Rattle.std.proofs.Common.{drop, length, take, ◌<◌}
use Rattle.formal_sums.specs.FormalSums.{Each}
use Rattle.term_lists.specs.Rings.{variables}
use Rattle.interreduce.specs.Leads.{AreNeededSoFar}
use Rattle.interreduce.proofs.leads.needed_members.Given as goal

abbrev pub invariant-loop-i : goal.invariant-loop-i
invariant-loop-i g l =
    let n = variables (g.F.Frame.over l.frame) in
    record {
      needed : AreNeededSoFar n (g.F.Frame.compare l.frame n) (g.L.Vectors.listed l.list) (take l.i-index l.i-items) (drop l.i-index l.i-items) l.kept.items;
      others : Each (λ i. i < length (g.L.Vectors.listed l.list)) l.others.items;
    }
