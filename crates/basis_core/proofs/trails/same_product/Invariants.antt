use Rattle.std.proofs.Common.{get_or, ℕ, ◌+◌, ◌<◌, ◌≡◌}
use Rattle.basis_core.proofs.trails.same_product.Given as goal

-- the sums of the exponents are the same so far
abbrev pub invariant-loop-i : goal.invariant-loop-i
invariant-loop-i l = (k : ℕ) → k < l.i → get_or l.first k 0 + get_or l.second k 0 ≡ get_or l.third k 0 + get_or l.fourth k 0
