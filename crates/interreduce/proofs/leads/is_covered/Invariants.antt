use Rattle.std.proofs.Common.{take, ℕ}
use Rattle.formal_sums.specs.FormalSums.{Each}
use Rattle.orders.specs.KeyOrders.{KeyDivides}
use Rattle.module_vectors.specs.Trails.{lead_at}
use Rattle.vector_division.specs.Progress.{HaveVariables}
use Rattle.interreduce.proofs.leads.is_covered.Given as goal

abbrev pub invariant-loop-i : goal.invariant-loop-i
invariant-loop-i g l =
    (n : ℕ) → HaveVariables n (g.L.Vectors.listed l.list)
    → Each (λ i. KeyDivides (lead_at n (g.L.Vectors.listed l.list) i) (lead_at n (g.L.Vectors.listed l.list) l.j) → ⊥) (take l.i-index l.kept)
