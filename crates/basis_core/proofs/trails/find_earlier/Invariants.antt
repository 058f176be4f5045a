use Rattle.std.proofs.Common.{ℕ, ◌<◌}
use Rattle.term_lists.specs.Rings.{variables}
use Rattle.module_vectors.specs.Trails.{IsInProduct, kept_product_lead, kept_at}
use Rattle.basis_core.specs.Rows.{vectors_in}
use Rattle.basis_core.proofs.trails.find_earlier.Given as goal

-- no product so far has the lead
abbrev pub invariant-loop-j : goal.invariant-loop-j
invariant-loop-j l =
    (j : ℕ) → j < l.j
    → IsInProduct (variables l.members.shared.ring) (vectors_in l.members.list)
    (kept_product_lead (variables l.members.shared.ring) (vectors_in l.members.list) (kept_at l.all l.at)) (kept_at l.all j) → ⊥
